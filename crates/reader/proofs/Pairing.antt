-- What two elements of a field give, and the table of it. Assumes nothing.
use Rattle.std.proofs.Common.{◌≡◌, ℕ, ◌<◌, ltb, Ok, Result, ◌∙◌, arith}
use Rattle.std.proofs.lemmas.Bool.{cond-true, lt-ltb}
use Rattle.faults.specs.declared.fault.Fault.{Fault}
use Rattle.fields.specs.Answers.{negative_of, negative_answer}
use Rattle.fields.specs.Lawful.{Tables, Lawful}
use Rattle.reader.specs.declared.pairs.Pair.{Pair}
use Rattle.fields.proofs.Answering.{partners}

-- what stands for an entry that is not there
abbrev pub no_pair : Pair
no_pair = record { sum = 0; product = 0; difference = 0 }

-- the negative of an element is an element
pub negative_below : (f : Tables) → Lawful f → (a : ℕ) → a < f.order → negative_of f a < f.order
negative_below f l a ha =
    let found = l.negatives a ha in
    let same = (partners f l a found.0 ha found.1).negative found.2 in
    omega (arith, found.1)

-- the answered negative of an element
pub negative_value : (f : Tables) (a v : ℕ) → a < f.order → ◌≡◌ {A = Result ℕ Fault} (Ok v) (negative_answer f a) → v ≡ negative_of f a
negative_value f a v ha e =
    let z : ◌≡◌ {A = Result ℕ Fault} (Ok v) (Ok (negative_of f a)) = e ∙ cond-true (ltb a f.order) _ _ (lt-ltb a f.order ha) in
    cc

-- an accepted value is the one that was told
pub ok_value : {X : Type 0} (v w : X) → ◌≡◌ {A = Result X Fault} (Ok v) (Ok w) → v ≡ w
ok_value v w e = cc
