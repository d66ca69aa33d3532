-- A withdrawal moves past what ran later, if the test says yes to each.
use Rattle.std.proofs.Common.{◌≡◌, suc, List, ◌∷◌, length, Some, subst, suc-le-suc, arith}
use Rattle.objects.specs.declared.records.Record.{Record}
use Rattle.objects.specs.Kinds.{Kind, Laws, Runs}
use Rattle.objects.specs.Leads.{Leads, none, more, Passes}

pub runs_lawful : {S : Type 0} {k : Kind S} → Laws k → {s t : S} {r : Record} → k.Lawful s → Runs k s r t → k.Lawful t
runs_lawful {S} {k} laws {s} {t} {r} lawful runs = subst k.Lawful runs.ends (laws.run_lawful s r.operation lawful)

-- the records after the first pass too
rest_passes : {S : Type 0} (k : Kind S) (p q : Record) (rs : List Record) → Passes k p (q ∷ rs) (length (q ∷ rs)) → Passes k p rs (length rs)
rest_passes k p q rs passes i h = passes (suc i) (suc-le-suc h)

-- where a withdrawal that applies in t applies after rs too, which run from the withdrawn state as from t
pub record Carried {S : Type 0} (k : Kind S) (p : Record) (v : S) (rs : List Record) (u : S) : Type 0 where
  pub ends : S
  pub applies : k.withdrawn u p ≡ Some ends
  pub leads : Leads k v rs ends

pub carry : {S : Type 0} {k : Kind S} → Laws k → {p : Record} {t u v : S} {rs : List Record} → k.Lawful t → k.withdrawn t p ≡ Some v → Leads k t rs u → Passes k p rs (length rs) → Carried k p v rs u
carry laws {v = v} lawful withdrew none passes = record { ends = v; applies = withdrew; leads = none }
carry {S} {k} laws {p} {t} {u} {v} lawful withdrew (more {t = t₁} {r = q} {rs = rs} runs rest) passes =
    let square = (laws.sound p q (passes 0 (omega arith))).square t t₁ v lawful withdrew runs in
    let on = carry laws (runs_lawful laws lawful runs) square.1.0 rest (rest_passes k p q rs passes) in
    record { ends = on.ends; applies = on.applies; leads = more square.1.1 on.leads }

-- the same from where p ran
pub carry_from_run : {S : Type 0} {k : Kind S} → Laws k → {p : Record} {s t u : S} {rs : List Record} → k.Lawful s → Runs k s p t → Leads k t rs u → Passes k p rs (length rs) → Carried k p s rs u
carry_from_run laws {p} {s} {t} lawful runs rest passes = carry laws (runs_lawful laws lawful runs) (laws.undo s t p lawful runs) rest passes
