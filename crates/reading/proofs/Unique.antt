-- Where the bytes that a reader gives are known, two outcomes that the contract allows coincide, if no read failed: as many bytes as there
-- are, or as there is room for, and the first of them. Assumes nothing.
use Rattle.std.proofs.Common.{◌≡◌, ℕ, ◌≤◌, ◌<◌, min, List, ◌++◌, Option, Some, None, arith, length, take, sym, ap, ◌∙◌, length-append, length-take-le}
use Rattle.std.specs.Io.KnownBytes.{Consumes, IsAtEnd}
use lib.Seq.{take_at}

-- n bytes at the front of l, of the bytes xs of the reader, of which rest is left
pub record Full (xs : List ℕ) (l : List ℕ) (rest : Option (List ℕ)) (n : ℕ) : Type 0 where
  pub within : n ≤ length l
  pub bytes : Consumes (Some xs) rest (take n l)
  pub full : n < length l → IsAtEnd rest

full_is : (xs l : List ℕ) (rest : Option (List ℕ)) (n : ℕ) → Full xs l rest n → (n ≡ min (length xs) (length l)) × (take n l ≡ take n xs)
full_is xs l None n f = absurd f.bytes
full_is xs l (Some ys) n f =
    let e : xs ≡ take n l ++ ys = f.bytes in
    let long : length (take n l) ≡ n = length-take-le n l f.within in
    let left : n < length l → length ys ≡ 0 = λ h. ap length (f.full h) in
    (grind (arith, ap length e, length-append (take n l) ys, f.within, left), sym (ap (take n) e ∙ take_at (take n l) ys n long))

pub full_unique : {xs l k : List ℕ} {p q : Option (List ℕ)} {n m : ℕ} → length l ≡ length k → Full xs l p n → Full xs k q m
    → (n ≡ m) × (take n l ≡ take m k)
full_unique {xs} {l} {k} {p} {q} {n} {m} e f g =
    let a = full_is xs l p n f in
    let b = full_is xs k q m g in
    let same : n ≡ m = omega (arith, a.0, b.0) in
    (same, a.1 ∙ ap (λ (n : ℕ). take n xs) same ∙ sym b.1)
