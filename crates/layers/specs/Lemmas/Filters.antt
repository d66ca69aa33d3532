-- A kind behind a filter keeps the laws that the kind below keeps, whatever the filter.
use Rattle.std.specs.Prelude.{◌≡◌, true, Some, None, Ok, Err, refl}
use Rattle.std.proofs.Common.{sym, ap, subst, ◌∙◌}
use Rattle.std.proofs.lemmas.Bool.{cond_both, cond-true}
use Rattle.objects.specs.declared.records.Operation.{Operation}
use Rattle.objects.specs.declared.records.Answer.{Answer}
use Rattle.objects.specs.declared.records.Record.{Record}
use Rattle.objects.specs.Answers.{answered, same}
use Rattle.objects.specs.Kinds.{Kind, Laws, PlainWithdrawals, Runs}
use Rattle.std.proofs.lemmas.Option.{cond_some}
use Rattle.objects.proofs.Same.{same_refl, same_true}
use Rattle.layers.specs.Filters.{Passage, filtered, passed_record, ran_past, tested_past, withdrawn_past}

module _ {S : Type 0} (k : Kind S) (passes : Operation → Passage) where
  -- a record, its operation's passage at hand, runs from s to t
  abbrev RunsPast : S → Passage → Answer → S → Type 0
  RunsPast s p a t = ((ran_past k s p).0 ≡ a) × ((ran_past k s p).1 ≡ t)

  past : {s t : S} {r : Record} → Runs (filtered k passes) s r t → RunsPast s (passes r.operation) r.answer t
  past runs = (runs.answers, runs.ends)

  below : {s t : S} {o : Operation} {a : Answer} → RunsPast s (Ok o) a t → Runs k s (answered o a) t
  below runs = record { answers = runs.0; ends = runs.1 }

  module _ (laws : Laws k) where
    undo_past : (s t : S) (p : Passage) (a : Answer) → k.Lawful s → RunsPast s p a t → withdrawn_past k t p a ≡ Some s
    undo_past s t (Ok o) a lawful runs = laws.undo s t (answered o a) lawful (below runs)
    undo_past s t (Err own) a lawful runs =
        cond-true (same a own) (Some t) None (subst (λ b. same b own ≡ true) runs.0 (same_refl own)) ∙ ap Some (sym runs.1)

    -- both ways round come to one state
    abbrev Square : Passage → Answer → Passage → Answer → S → S → Type 0
    Square p a q b u v = (w : S) × ((withdrawn_past k u p a ≡ Some w) × RunsPast v q b w)

    sound_past : (p q : Passage) (a b : Answer) → tested_past k (passed_record p a) (passed_record q b) ≡ true → (t u v : S) → k.Lawful t → withdrawn_past k t p a ≡ Some v → RunsPast t q b u → Square p a q b u v
    sound_past (Ok o) (Ok o') a b passed t u v lawful withdrew runs =
        let square = (laws.sound (answered o a) (answered o' b) passed).square t u v lawful withdrew (below runs) in
        (square.0, (square.1.0, (square.1.1.answers, square.1.1.ends)))
    sound_past (Ok o) (Err own) a b passed t u v lawful withdrew runs =
        (v, (ap (λ s. k.withdrawn s (answered o a)) (sym runs.1) ∙ withdrew, (runs.0, refl)))
    sound_past (Err own) q a b passed t u v lawful withdrew runs =
        let told = cond_some (same a own) t v withdrew in
        (u, (cond-true (same a own) (Some u) None told.0, subst (λ s. RunsPast s q b u) told.1 runs))

    exact_past : (p q : Passage) (a b : Answer) → ((t u v : S) → k.Lawful t → withdrawn_past k t p a ≡ Some v → RunsPast t q b u → Square p a q b u v) → tested_past k (passed_record p a) (passed_record q b) ≡ true
    exact_past (Ok o) (Ok o') a b square =
        laws.exact (answered o a) (answered o' b) (record { square = λ t u v lawful withdrew runs. let w = square t u v lawful withdrew (runs.answers, runs.ends) in (w.0, (w.1.0, below w.1.1)) })
    exact_past (Ok o) (Err own) a b square = refl
    exact_past (Err own) q a b square = refl

    run_lawful_past : (s : S) (p : Passage) → k.Lawful s → k.Lawful (ran_past k s p).1
    run_lawful_past s (Ok o) lawful = laws.run_lawful s o lawful
    run_lawful_past s (Err own) lawful = lawful

    withdraw_lawful_past : (s t : S) (p : Passage) (a : Answer) → k.Lawful s → withdrawn_past k s p a ≡ Some t → k.Lawful t
    withdraw_lawful_past s t (Ok o) a lawful withdrew = laws.withdraw_lawful s t (answered o a) lawful withdrew
    withdraw_lawful_past s t (Err own) a lawful withdrew = subst k.Lawful (cond_some (same a own) s t withdrew).1 lawful

    pub filtered_laws : Laws (filtered k passes)
    filtered_laws = record {
      undo = λ s t r lawful runs. undo_past s t (passes r.operation) r.answer lawful (past runs);
      sound = λ p q passed. record { square = λ t u v lawful withdrew runs. let w = sound_past (passes p.operation) (passes q.operation) p.answer q.answer passed t u v lawful withdrew (past runs) in (w.0, (w.1.0, record { answers = w.1.1.0; ends = w.1.1.1 })) };
      exact = λ p q commutes. exact_past (passes p.operation) (passes q.operation) p.answer q.answer (λ t u v lawful withdrew runs. let w = commutes.square t u v lawful withdrew (record { answers = runs.0; ends = runs.1 }) in (w.0, (w.1.0, past w.1.1)));
      run_lawful = λ s o lawful. run_lawful_past s (passes o) lawful;
      withdraw_lawful = λ s t r lawful withdrew. withdraw_lawful_past s t (passes r.operation) r.answer lawful withdrew;
    }

  module _ (plain : PlainWithdrawals k) where
    still_past : (s t : S) (p : Passage) (a : Answer) → k.Lawful s → RunsPast s p a s → k.Lawful t → withdrawn_past k t p a ≡ Some t
    still_past s t (Ok o) a lawful runs lawful' = plain.still s t (answered o a) lawful (below runs) lawful'
    still_past s t (Err own) a lawful runs lawful' = cond-true (same a own) (Some t) None (subst (λ b. same b own ≡ true) runs.0 (same_refl own))

    never_past : (t : S) (p : Passage) (a : Answer) → ((s u : S) → k.Lawful s → RunsPast s p a u → ⊥) → k.Lawful t → withdrawn_past k t p a ≡ None
    never_past t (Ok o) a nowhere lawful = plain.never t (answered o a) (λ s u lawful' runs. nowhere s u lawful' (runs.answers, runs.ends)) lawful
    never_past t (Err own) a nowhere lawful =
        cond_both (same a own) (Some t) None (λ o. o ≡ None) (λ is. absurd (nowhere t t lawful (sym (same_true a own is), refl))) (λ _. refl)

    pub filtered_withdrawals : PlainWithdrawals (filtered k passes)
    filtered_withdrawals = record {
      still = λ s t r lawful runs lawful'. still_past s t (passes r.operation) r.answer lawful (past runs) lawful';
      never = λ t r nowhere lawful. never_past t (passes r.operation) r.answer (λ s u lawful' runs. nowhere s u lawful' (record { answers = runs.0; ends = runs.1 })) lawful;
    }
