-- Runs of calls. Assumes nothing.
use Rattle.std.specs.Prelude.{Bool}
use Rattle.fields.specs.Lawful.{Tables}
use Rattle.words.specs.declared.plan.Plan.{Plan}
use Rattle.register.specs.Racks.{Rack}
use Rattle.register.specs.Calls.{Call, accepts, left_by}
use Rattle.register.specs.Books.{Book, blank, fed}

-- a run of calls, any of which may be refused: from a rack to the rack that they leave, with the book that is fed them
pub data Run {N : Type 0} (same : N → N → Bool) (f : Tables) (p : Plan) (start : Rack N) : Rack N → Book N → Type 0 where
  begun : Run same f p start start blank
  called : (s : Rack N) (b : Book N) (call : Call N) → Run same f p start s b → Run same f p start (left_by same f p s call) (fed same b call (accepts same f p s call))
