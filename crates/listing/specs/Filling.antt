-- Inner: what each step of the reader does, which is lent the text t and leaves t' of it. Only functions of this crate cite this file.
use Rattle.std.specs.Prelude.{◌≡◌, List, [], ◌∷◌, ◌++◌, ℕ, ◌*◌, ◌<◌, ℤ, pos, length, Option, Some, None}
use Rattle.listing.specs.declared.asked.Head.{Head}
use Rattle.listing.specs.declared.asked.Asked.{Asked}
use Rattle.listing.specs.Words.{words}
use Rattle.listing.specs.Asked.{text, pair, also, numbers, no, layer_of, reads}
use Rattle.listing.specs.Answer.{asked_as, front}

-- the numbers of a text, if every word is one
unfoldable pub numbers_in : List ℕ → Option (List ℤ)
numbers_in t = numbers (words t)

-- numbers in front of those that follow
unfoldable pub ahead : List ℤ → Option (List ℤ) → Option (List ℤ)
ahead p None = None
ahead p (Some l) = Some (p ++ l)

-- the next number
pub data NumberRead (t t' : List ℕ) : Option ℤ → Type 0 where
  number : {z : ℤ} → numbers_in t ≡ also (Some z) (numbers_in t') → NumberRead t t' (Some z)
  missing : ((l : List ℤ) → numbers_in t ≡ Some l → l ≡ []) → NumberRead t t' None

pub data CountRead (t t' : List ℕ) : Option ℕ → Type 0 where
  points : {m : ℕ} → numbers_in t ≡ also (Some (pos m)) (numbers_in t') → m < 2147483648 → CountRead t t' (Some m)
  uncounted : ((m : ℕ) (l : List ℤ) → numbers_in t ≡ Some (pos m ∷ l) → ⊥) → CountRead t t' None

pub data CoordsRead (t t' : List ℕ) (wanted : ℕ) (room room' : List ℤ) : Option Unit → Type 0 where
  all : {u : Unit} (cs : List ℤ) → numbers_in t ≡ ahead cs (numbers_in t') → length cs ≡ wanted → room' ≡ front cs room
      → CoordsRead t t' wanted room room' (Some u)
  short : ((l : List ℤ) → numbers_in t ≡ Some l → length l < wanted) → CoordsRead t t' wanted room room' None

pub data LayerRead (t t' : List ℕ) (room room' : List ℤ) : Option Head → Type 0 where
  read : {plane : ℤ} {m : ℕ} (cs : List ℤ) → numbers_in t ≡ ahead (plane ∷ pos m ∷ cs) (numbers_in t') → length cs ≡ 2 * m
      → room' ≡ front cs room → LayerRead t t' room room' (Some (record { plane = plane; count = m }))
  other : ((l : List ℤ) → numbers_in t ≡ Some l → layer_of l ≡ no) → LayerRead t t' room room' None

pub data PairRead (t : List ℕ) (a b a' b' : List ℤ) : Option Asked → Type 0 where
  asked : {lower upper : ℤ} {m n : ℕ} (l k : List ℤ) → reads t ≡ pair lower l upper k → length l ≡ 2 * m → length k ≡ 2 * n
      → a' ≡ front l a → b' ≡ front k b
      → PairRead t a b a' b' (Some (asked_as lower m upper n))
  other : reads t ≡ text → PairRead t a b a' b' None
