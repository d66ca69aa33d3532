-- A pair keeps the laws that both of its sides keep.
use Rattle.std.specs.Prelude.{◌≡◌, Bool, true, false, Some, None, refl}
use Rattle.objects.specs.declared.records.Operation.{Operation}
use Rattle.objects.specs.declared.records.Record.{Record}
use Rattle.objects.specs.Kinds.{Kind, Laws, PlainWithdrawals, Runs}
use Rattle.layers.specs.Pairs.{goes_left, halved_record, paired, ran_on, tested_on, withdrawn_on}
use Rattle.layers.specs.Lemmas.Parts.{Disjoint, Part, apart_in, exact_in, never_in, run_lawful_in, sound_in, still_in, undo_in, withdraw_lawful_in}

module _ {S T : Type 0} (a : Kind S) (b : Kind T) where
  abbrev Both : S × T → Type 0
  Both s = a.Lawful s.0 × b.Lawful s.1

  abbrev left : Part Both a
  left = record {
    get = λ s. s.0;
    put = λ s x. (x, s.1);
    get_put = λ s x. refl;
    put_get = λ s. refl;
    put_put = λ s x y. refl;
    lawful_get = λ s lawful. lawful.0;
    lawful_put = λ s x lawful h. (h, lawful.1);
  }

  abbrev right : Part Both b
  right = record {
    get = λ s. s.1;
    put = λ s y. (s.0, y);
    get_put = λ s x. refl;
    put_get = λ s. refl;
    put_put = λ s x y. refl;
    lawful_get = λ s lawful. lawful.1;
    lawful_put = λ s y lawful h. (lawful.0, h);
  }

  left_right : Disjoint left right
  left_right = record { get_first = λ w t. refl; get_second = λ w s. refl; put_both = λ w s t. refl }

  right_left : Disjoint right left
  right_left = record { get_first = λ w t. refl; get_second = λ w s. refl; put_both = λ w s t. refl }

  -- a record runs on its side; true is left
  abbrev RunsOn : S × T → Record → Bool → S × T → Type 0
  RunsOn s r side t = ((ran_on a b s r.operation side).0 ≡ r.answer) × ((ran_on a b s r.operation side).1 ≡ t)

  abbrev Square : Record → Record → Bool → Bool → S × T → S × T → Type 0
  Square p q i j u v = (w : S × T) × ((withdrawn_on a b u p i ≡ Some w) × RunsOn v q j w)

  on : {s t : S × T} {r : Record} → Runs (paired a b) s r t → RunsOn s (halved_record r) (goes_left r.operation) t
  on runs = (runs.answers, runs.ends)

  off : {s t : S × T} {r : Record} → RunsOn s (halved_record r) (goes_left r.operation) t → Runs (paired a b) s r t
  off runs = record { answers = runs.0; ends = runs.1 }

  module _ (laws_a : Laws a) (laws_b : Laws b) where
    undo_on : (s t : S × T) (r : Record) (side : Bool) → Both s → RunsOn s r side t → withdrawn_on a b t r side ≡ Some s
    undo_on s t r true = undo_in left laws_a s t r
    undo_on s t r false = undo_in right laws_b s t r

    sound_on : (p q : Record) (i j : Bool) → tested_on a b p q i j ≡ true → (t u v : S × T) → Both t → withdrawn_on a b t p i ≡ Some v → RunsOn t q j u → Square p q i j u v
    sound_on p q true true = sound_in left laws_a p q
    sound_on p q true false = λ _ t u v _. apart_in left right left_right p q t u v
    sound_on p q false true = λ _ t u v _. apart_in right left right_left p q t u v
    sound_on p q false false = sound_in right laws_b p q

    run_lawful_on : (s : S × T) (o : Operation) (side : Bool) → Both s → Both (ran_on a b s o side).1
    run_lawful_on s o true = run_lawful_in left laws_a s o
    run_lawful_on s o false = run_lawful_in right laws_b s o

    withdraw_lawful_on : (s t : S × T) (r : Record) (side : Bool) → Both s → withdrawn_on a b s r side ≡ Some t → Both t
    withdraw_lawful_on s t r true = withdraw_lawful_in left laws_a s t r
    withdraw_lawful_on s t r false = withdraw_lawful_in right laws_b s t r

    -- that the test is exact takes a lawful state of the other side
    module _ (s₀ : S × T) (lawful₀ : Both s₀) where
      exact_on : (p q : Record) (i j : Bool) → ((t u v : S × T) → Both t → withdrawn_on a b t p i ≡ Some v → RunsOn t q j u → Square p q i j u v) → tested_on a b p q i j ≡ true
      exact_on p q true true = exact_in left laws_a s₀ lawful₀ p q
      exact_on p q true false = λ _. refl
      exact_on p q false true = λ _. refl
      exact_on p q false false = exact_in right laws_b s₀ lawful₀ p q

      pub paired_laws : Laws (paired a b)
      paired_laws = record {
        undo = λ s t r lawful runs. undo_on s t (halved_record r) (goes_left r.operation) lawful (on runs);
        sound = λ p q passed. record { square = λ t u v lawful withdrew runs. let w = sound_on (halved_record p) (halved_record q) (goes_left p.operation) (goes_left q.operation) passed t u v lawful withdrew (on runs) in (w.0, (w.1.0, off w.1.1)) };
        exact = λ p q commutes. exact_on (halved_record p) (halved_record q) (goes_left p.operation) (goes_left q.operation) (λ t u v lawful withdrew runs. let w = commutes.square t u v lawful withdrew (off runs) in (w.0, (w.1.0, on w.1.1)));
        run_lawful = λ s o lawful. run_lawful_on s (halved_record (record { operation = o; answer = ((paired a b).ran s o).0 })).operation (goes_left o) lawful;
        withdraw_lawful = λ s t r lawful withdrew. withdraw_lawful_on s t (halved_record r) (goes_left r.operation) lawful withdrew;
      }

  module _ (plain_a : PlainWithdrawals a) (plain_b : PlainWithdrawals b) where
    still_on : (s t : S × T) (r : Record) (side : Bool) → Both s → RunsOn s r side s → Both t → withdrawn_on a b t r side ≡ Some t
    still_on s t r true = still_in left plain_a s t r
    still_on s t r false = still_in right plain_b s t r

    never_on : (t : S × T) (r : Record) (side : Bool) → ((s u : S × T) → Both s → RunsOn s r side u → ⊥) → Both t → withdrawn_on a b t r side ≡ None
    never_on t r true = never_in left plain_a t r
    never_on t r false = never_in right plain_b t r

    pub paired_withdrawals : PlainWithdrawals (paired a b)
    paired_withdrawals = record {
      still = λ s t r lawful runs lawful'. still_on s t (halved_record r) (goes_left r.operation) lawful (on runs) lawful';
      never = λ t r nowhere lawful. never_on t (halved_record r) (goes_left r.operation) (λ s u lawful' runs. nowhere s u lawful' (off runs)) lawful;
    }
