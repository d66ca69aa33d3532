-- What a worked example says.
use Rattle.std.specs.Prelude.{◌≡◌, Bool, List, ℤ, Decides}
use Rattle.objects.specs.declared.records.Record.{Record}
use Rattle.objects.specs.Kinds.{Kind, Commutes}
use Rattle.counters.specs.Counts.{ceiling}
use Rattle.counters.specs.Kind.{bank}

-- the object that an example is about
pub data Subject : Type 0 where
  counter_bank : Subject

abbrev pub State : Subject → Type 0
State counter_bank = List ℤ

abbrev pub kind : (x : Subject) → Kind (State x)
kind counter_bank = bank ceiling

pub data Example : Type 0 where
  -- an earlier record, a later one, and the test's verdict
  pair : Subject → Record → Record → Bool → Example

-- the verdict is the test's, and it is yes exactly when the earlier record's withdrawal and the later record commute
abbrev pub Holds : Example → Type 0
Holds (pair x p q verdict) = ((kind x).tested p q ≡ verdict) × Decides verdict (Commutes (kind x) p q)
