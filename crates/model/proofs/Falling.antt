-- Sessions whose days fall, the newest first.
use Rattle.std.proofs.Common.{◌≡◌, ℕ, ◌<◌, ◌≤◌, false, List, [], ◌∷◌, refl, arith}
use Rattle.std.specs.List.{AllByRecursion}
use Rattle.std.proofs.lemmas.Bool.{lt-leb}
use Rattle.model.specs.Sessions.{Session, has_reached}

-- each session is later than all after it in the list
abbrev pub Falling : List Session → Type 0
Falling [] = Unit {0}
Falling (s ∷ ss) = AllByRecursion (λ r. r.day < s.day) ss × Falling ss

-- what is later than all sessions was not reached
pub unreached : (d e : ℕ) (ss : List Session) → AllByRecursion (λ s. s.day < d) ss → d ≤ e → has_reached e ss ≡ false
unreached d e [] f le = refl
unreached d e (s ∷ ss) f le = let k = f.0 in lt-leb e s.day (omega arith)
