-- A history in which rounding uses the tolerance of the second claim to the full.
use Rattle.std.specs.Prelude.{◌≡◌, [], ◌∷◌, pos, neg_ℤ}
use Rattle.examples.specs.Books.{weekdays, day_rate, client, deal, opposites}
use Rattle.model.specs.History.{History, Entered, Listed, Published, Opened, Traded, Marked, Closed, Paid}
use Rattle.model.specs.Lawful.{Lawful}
use Rattle.model.specs.Value.{apart_of, tolerance_of}

-- one contract of February 2027 over a reserve day of the factor 1.00035: the price 9,910,000 becomes 9,913,468.5, and rounding adds half a centavo
abbrev pub half_centavo : History
half_centavo =
    Closed (opposites (pos 31))
    ∷ Marked 0 9913500
    ∷ Paid
    ∷ Opened 9861
    ∷ Closed (opposites (neg_ℤ (pos 3388)))
    ∷ Marked 0 9910000
    ∷ Traded (deal 10000 1 9913388)
    ∷ Published (day_rate 9860 9219000)
    ∷ Opened 9860
    ∷ Listed 325
    ∷ Entered (client 11)
    ∷ Entered (client 10)
    ∷ []

-- the two sides of the claim for account 1 in month 0 are equal, and not 0
pub record FullTolerance : Type 0 where
  pub lawful : Lawful weekdays half_centavo
  pub sides : apart_of weekdays half_centavo 1 0 ≡ tolerance_of weekdays half_centavo 1 0
  pub tolerance : tolerance_of weekdays half_centavo 1 0 ≡ 1000000000
