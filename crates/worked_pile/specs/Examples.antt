-- What a worked example says.
use Rattle.std.specs.Prelude.{◌≡◌, ℕ, Bool, List, ◌∷◌, replicate, ℤ, Decides, Option}
use Rattle.objects.specs.declared.records.Record.{Record}
use Rattle.objects.specs.Kinds.{Kind, Commutes}
use Rattle.counters.specs.Counts.{ceiling}
use Rattle.counters.specs.Kind.{bank}
use Rattle.sets.specs.Kind.{key_set}
use Rattle.maps.specs.Kind.{dated_map}
use Rattle.layers.specs.Aliases.{aliased}
use Rattle.layers.specs.Filters.{filtered}

-- the object that an example is about; the aliases 1,000 and 1,001 of the bank both stand for key 3, the others for none
pub data Subject : Type 0 where
  counter_bank keys dates aliases : Subject

abbrev pub targets : List ℕ
targets = 3 ∷ 3 ∷ replicate 30 1000

abbrev pub State : Subject → Type 0
State counter_bank = List ℤ
State keys = List Bool
State dates = List (Option ℤ)
State aliases = List ℤ

abbrev pub kind : (x : Subject) → Kind (State x)
kind counter_bank = bank ceiling
kind keys = key_set
kind dates = dated_map
kind aliases = filtered (bank ceiling) (aliased targets)

pub data Example : Type 0 where
  -- an earlier record, a later one, and the test's verdict
  pair : Subject → Record → Record → Bool → Example

-- the verdict is the test's, and it is yes exactly when the earlier record's withdrawal and the later record commute
abbrev pub Holds : Example → Type 0
Holds (pair x p q verdict) = ((kind x).tested p q ≡ verdict) × Decides verdict (Commutes (kind x) p q)
