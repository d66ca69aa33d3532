-- What a kind of object means, and the laws that it keeps.
use Rattle.std.specs.Prelude.{◌≡◌, Bool, true, cond, Some, None, Option}
use Rattle.objects.specs.declared.records.Operation.{Operation}
use Rattle.objects.specs.declared.records.Answer.{Answer}
use Rattle.objects.specs.declared.records.Record.{Record}

-- the meaning of an object's calls over its states, at what was fixed at its making
pub record Kind (S : Type 0) : Type 1 where
  -- the states that the kind allows
  pub Lawful : S → Type 0
  -- the answer to an operation, and the state after it
  pub ran : S → Operation → Answer × S
  -- the state after a record's withdrawal, where that applies
  pub withdrawn : S → Record → Option S
  -- the test of an earlier record against a later one
  pub tested : Record → Record → Bool

-- the record runs in s, where its operation gives its answer, and ends in t
pub record Runs {S : Type 0} (k : Kind S) (s : S) (r : Record) (t : S) : Type 0 where
  pub answers : (k.ran s r.operation).0 ≡ r.answer
  pub ends : (k.ran s r.operation).1 ≡ t

-- in every lawful state t, where p's withdrawal leads to v and q to u, both ways round lead to one state
pub record Commutes {S : Type 0} (k : Kind S) (p q : Record) : Type 0 where
  pub square : (t u v : S) → k.Lawful t → k.withdrawn t p ≡ Some v → Runs k t q u → (w : S) × ((k.withdrawn u p ≡ Some w) × Runs k v q w)

pub record Laws {S : Type 0} (k : Kind S) : Type 0 where
  -- a withdrawal right after a run undoes it
  pub undo : (s t : S) (r : Record) → k.Lawful s → Runs k s r t → k.withdrawn t r ≡ Some s
  -- the test says yes exactly when withdrawal and later operation commute
  pub sound : (p q : Record) → k.tested p q ≡ true → Commutes k p q
  pub exact : (p q : Record) → Commutes k p q → k.tested p q ≡ true
  -- run and withdrawal lead from lawful states to lawful states
  pub run_lawful : (s : S) (o : Operation) → k.Lawful s → k.Lawful (k.ran s o).1
  pub withdraw_lawful : (s t : S) (r : Record) → k.Lawful s → k.withdrawn s r ≡ Some t → k.Lawful t

-- a rule of the kinds of this library, which is no law: what a withdrawal is where a record moved nothing, or never ran
pub record PlainWithdrawals {S : Type 0} (k : Kind S) : Type 0 where
  -- of a record that leaves the state as it is: it applies everywhere and moves nothing
  pub still : (s t : S) (r : Record) → k.Lawful s → Runs k s r s → k.Lawful t → k.withdrawn t r ≡ Some t
  -- of a record that runs in no lawful state: it applies nowhere
  pub never : (t : S) (r : Record) → ((s u : S) → k.Lawful s → Runs k s r u → ⊥) → k.Lawful t → k.withdrawn t r ≡ None

-- a value where a test says yes
abbrev pub provided : {A : Type 0} → Bool → A → Option A
provided yes_test x = cond yes_test (Some x) None
