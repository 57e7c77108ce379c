-- What is written is the line of the verdict on the row.
use Rattle.std.proofs.Common.{◌≡◌, length, take, sym, ap, ◌∙◌}
use Rattle.faults.proofs.Answers.{answer_accepted}
use Rattle.register.specs.Calls.{text_refusal, unless}
use Rattle.register.specs.Texts.{told_line, with_line}
use Rattle.register.proofs.Telling.{TellsRow, told_by}
use Rattle.register.proofs.register.Register.judge_text.Given.{Over}
use Rattle.register.proofs.register.Register.judge_text.Goals.{After-listed_count-count}
use Rattle.register.proofs.register.Register.judge_text.Goals as goal

-- what is known of the line
known : (g : Over) (c : After-listed_count-count g)
    → TellsRow (g.F.Field.tables c.args.field.now) c.args.plan.now c.args.self.now.entries.now (g.L.Line.row c.args.line.now) c.args.list.now c.args.text.now c.in_ok-verdict.verdict c.listed_count-count.result (take c.listed_count-count.result c.judge.new.list)
known g c =
    told_by (g.F.Field.tables c.args.field.now) c.args.plan.now c.args.self.now.entries.now (g.L.Line.row c.args.line.now) c.args.list.now c.args.text.now c.judge.new.list c.in_ok-may_tell.field-0 c.in_ok-verdict.verdict c.listed_count-count.result c.in_ok-may_tell.ensures c.in_ok-verdict.ensures.answer c.listed_count-count.ensures c.judge.ensures.list

pub slice_bounds-numbers-end-2 : goal.slice_bounds-numbers-end-2
slice_bounds-numbers-end-2 g c = (known g c).counted

pub invariant_of-write : goal.invariant_of-write
invariant_of-write g c =
    let told = known g (goal.at.invariant_of-write g c).After-listed_count-count in
    record { values_fit = told.values_fit; numbers_fit = told.numbers_fit; few = told.few }

pub returns-clause-answer : goal.returns-clause-answer
returns-clause-answer g c =
    let told = known g (goal.at.returns-clause-answer g c).After-listed_count-count in
    answer_accepted (text_refusal (g.F.Field.tables c.args.field.now) c.args.plan.now (g.L.Line.row c.args.line.now) c.args.list.now c.args.text.now) _ _ told.none_refuses (c.write.ensures.count ∙ ap length told.line)

pub returns-clause-text : goal.returns-clause-text
returns-clause-text g c =
    let told = known g (goal.at.returns-clause-text g c).After-listed_count-count in
    let text = c.args.text.now in
    let line = told_line (g.F.Field.tables c.args.field.now) c.args.plan.now c.args.self.now.entries.now (g.L.Line.row c.args.line.now) in
    let whole : c.write.new.text ≡ with_line line text = c.write.ensures.text ∙ ap (λ xs. with_line xs text) told.line in
    whole ∙ sym (ap (λ o. unless o (with_line line text) text) told.none_refuses)
