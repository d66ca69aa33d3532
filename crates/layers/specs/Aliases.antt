-- Aliases: key 1,000 + i, with i below 32, goes below as target i, if that is a key of the object itself.
use Rattle.std.specs.Prelude.{ℕ, ◌-◌, cond, List, Ok, Err, nat_lt, slice_index}
use Rattle.objects.specs.declared.records.Operation.{Operation}
use Rattle.objects.specs.Answers.{bad}
use Rattle.layers.specs.Filters.{Passage}

-- keys below 1,000 are the object's own; there are 32 aliases, which begin there
abbrev pub own_keys : ℕ
own_keys = 1000

abbrev pub aliases : ℕ
aliases = 32

abbrev pub with_key : Operation → ℕ → Operation
with_key o key = record { code = o.code; unit = o.unit; key = key; amount = o.amount }

abbrev pub by_target : Operation → ℕ → Passage
by_target o target = cond (nat_lt target own_keys) (Ok (with_key o target)) (Err bad)

abbrev pub aliased : List ℕ → Operation → Passage
aliased targets o =
    let i = o.key - own_keys in
    cond (nat_lt o.key own_keys) (Ok o) (cond (nat_lt i aliases) (by_target o (slice_index targets i)) (Err bad))
