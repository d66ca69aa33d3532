-- A list to which the pieces of a `flat_map` are pushed one by one.
use Rattle.std.proofs.Common.{◌≡◌, ℕ, ◌+◌, ◌<◌, List, ◌++◌, length, take, get_or, ap, ◌∙◌}
use Rattle.std.specs.List.{flat_map}
use Rattle.std.proofs.lemmas.List.{take_more, flat_map_more}

pub pushed_more : {X A : Type 0} (f : X → List A) (xs : List X) (i : ℕ) (d : X) (first before after : List A) → i < length xs → before ≡ first ++ flat_map f (take i xs) → after ≡ before ++ f (get_or xs i d) → after ≡ first ++ flat_map f (take (i + 1) xs)
pushed_more f xs i d first before after here so_far pushed =
    pushed ∙ ap (λ ys. ys ++ f (get_or xs i d)) so_far ∙ flat_map_more f first (take i xs) (get_or xs i d) ∙ ap (λ ys. first ++ flat_map f ys) (rw (take_more xs i d here))
