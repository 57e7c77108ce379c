-- Which field a kind and its parameter choose. Assumes nothing.
use Rattle.std.specs.Prelude.{◌≡◌, cond, Some, None, Option, Result, MatchResult}
use Rattle.faults.specs.Faults.{fault}
use Rattle.faults.specs.declared.fault.Fault.{Fault}
use Rattle.faults.specs.declared.refusal.Refusal.TheVariants.{Field}
use Rattle.fields.specs.Lawful.{Tables}
use Rattle.fields.specs.Kinds.{makes_prime_field, prime_tables, has_binary_field, house_modulus, binary_tables}
use Rattle.fields.specs.declared.any.AnyField.{AnyField}
use Rattle.fields.specs.declared.any.AnyField.TheVariants as any
use Rattle.fields.specs.declared.any.FieldChoice.{FieldChoice}
use Rattle.fields.specs.declared.any.FieldChoice.TheVariants.{Prime, Binary}

-- a choice of no field is refused with 1 and its parameter
abbrev pub choice_refusal : FieldChoice → Option Fault
choice_refusal (Prime p) = cond (makes_prime_field p) None (Some (fault Field p))
choice_refusal (Binary m) = cond (has_binary_field m) None (Some (fault Field m))

-- the tables of the field that is chosen
abbrev pub choice_tables : FieldChoice → Tables
choice_tables (Prime p) = prime_tables p
choice_tables (Binary m) = binary_tables m (house_modulus m)

-- the tables of a field of either kind
abbrev pub any_tables : AnyField → Tables
any_tables (any.Prime f) = prime_tables f.p
any_tables (any.Binary f) = binary_tables f.m f.modulus

-- the result is a field with the tables that are chosen, or the refusal of a choice of no field
abbrev pub Chooses : FieldChoice → Result AnyField Fault → Type 0
Chooses choice r = MatchResult r (λ f. (choice_refusal choice ≡ None) × (any_tables f ≡ choice_tables choice)) (λ e. choice_refusal choice ≡ Some e)
