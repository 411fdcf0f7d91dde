-- Contract codes. Assumes nothing.
use Rattle.std.specs.Prelude.{◌≡◌, ℕ, ◌+◌, ◌-◌, ◌*◌, ◌/◌, ◌%◌, ◌≤◌, Bool, cond, ◌&&◌, List, [], ◌∷◌, ◌++◌, codes, ◌==◌, ◌≢◌, nat_le, slice_index}
use Rattle.std.specs.Str.{bytes_eq}
use Rattle.dates.specs.declared.TheConstants.{LAST_MONTH}

-- the letters of January to December
abbrev pub letters : List ℕ
letters = codes "FGHJKMNQUVXZ"

-- the letter of a month of the year, 0 for January
abbrev pub letter_of : ℕ → ℕ
letter_of m = slice_index letters m

-- the six bytes of a month's code, with months counted from January 2000
abbrev pub code_bytes : ℕ → List ℕ
code_bytes month = codes "DI1" ++ letter_of (month % 12) ∷ (48 + month / 12 / 10) ∷ (48 + month / 12 % 10) ∷ []

-- the place of a number in a list, past its end where it is not among them
abbrev pub place_in : List ℕ → ℕ → ℕ
place_in [] x = 0
place_in (y ∷ ys) x = cond (x == y) 0 (1 + place_in ys x)

-- the month that six bytes name, if they are a code
abbrev pub month_of : List ℕ → ℕ
month_of bytes = 12 * (10 * (slice_index bytes 4 - 48) + (slice_index bytes 5 - 48)) + place_in letters (slice_index bytes 3)

-- the bytes are the code of the month that they name
abbrev pub is_code : List ℕ → Bool
is_code bytes = nat_le (month_of bytes) LAST_MONTH && bytes_eq bytes (code_bytes (month_of bytes))

-- the bytes are the code of this month, and of no other
abbrev pub Names : List ℕ → ℕ → Type 0
Names bytes month = (bytes ≡ code_bytes month) × (month ≡ month_of bytes) × ((m : ℕ) → m ≤ LAST_MONTH → bytes ≡ code_bytes m → m ≡ month)

-- no month has these bytes for its code
abbrev pub NoCode : List ℕ → Type 0
NoCode bytes = (month : ℕ) → month ≤ LAST_MONTH → bytes ≢ code_bytes month
