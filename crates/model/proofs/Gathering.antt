-- A list with one element more at the end, if there is one more.
use Rattle.std.proofs.Common.{◌≡◌, ℕ, ◌<◌, ◌≤◌, List, [], ◌∷◌, length, get_or, Some, None, Option, refl, arith}
use Rattle.std.proofs.lemmas.List.{length_push, get_or_append_left}
use Rattle.model.specs.History.{with_last}

pub length-with_last : {X : Type 0} (xs : List X) (o : Option X) → length xs ≤ length (with_last xs o)
length-with_last xs None = omega arith
length-with_last xs (Some x) = omega (arith, length_push xs x)

pub get_or-with_last : {X : Type 0} (xs : List X) (o : Option X) (d : X) (i : ℕ) → i < length xs → get_or (with_last xs o) i d ≡ get_or xs i d
get_or-with_last xs None d i within = refl
get_or-with_last xs (Some x) d i within = get_or_append_left xs (x ∷ []) d i within
