-- Inner: walking back along the marks, and finding where to turn.
use Rattle.std.specs.Prelude.{◌≡◌, Bool, true, false, List, ◌∷◌, ◌++◌, ℕ, suc, pred, ◌+◌, ◌/◌, ◌%◌, ◌≤◌, ◌<◌, eqb, length, drop, Option, Some, None}
use Rattle.ways.specs.Strip.{Step, A, B, steps_a, steps_b}
use Rattle.ways.specs.Keppel.{trace}
use Rattle.strip.specs.Bytes.{bytes}
use Rattle.joining.specs.declared.walking.Back.{Back}
use Rattle.joining.specs.declared.walking.Look.{Look}
use Rattle.joining.specs.declared.walking.Turn.{Turn}
use Rattle.joining.specs.Cells.{cell_of, room}
use Rattle.joining.specs.Table.{cell_at}

-- what the mark of (i,j) says: that coming by A, or by B, attains the greatest value
unfoldable pub says_a : List ℕ → ℕ → ℕ → ℕ → Bool
says_a l n i j = eqb (cell_of l (cell_at n i j) % 2) 1

unfoldable pub says_b : List ℕ → ℕ → ℕ → ℕ → Bool
says_b l n i j = eqb (cell_of l (cell_at n i j) / 2) 1

-- marks up to (i,j) that lead back to (0,0): along the borders there is one way
pub record Leads (l : List ℕ) (n i j : ℕ) : Type 0 where
  pub few : i ≤ 250
  pub few_b : n ≤ 250
  pub in_row : j ≤ n
  pub long : room (cell_at n i j + 1) ≤ length l
  pub first : (b : ℕ) → b ≤ j → says_a l n 0 b ≡ false
  pub left : (a : ℕ) → a + 1 ≤ i → says_a l n (a + 1) 0 ≡ true

-- one step back from (i,j)
pub data BackFrom (by_a : Bool) (i j : ℕ) : Back → Type 0 where
  by_a : {a : ℕ} → by_a ≡ true → i ≡ a + 1 → BackFrom by_a i j (record { i = a; j = j; byte = 0 })
  by_b : {b : ℕ} → by_a ≡ false → j ≡ b + 1 → BackFrom by_a i j (record { i = i; j = b; byte = 1 })

-- along a strip t: the earliest step A into a pair that can be reached best by B as well
pub data TurnOf (l : List ℕ) (n : ℕ) (t : List Step) : Option Turn → Type 0 where
  turn : (x z : List Step) → t ≡ x ++ A ∷ z → says_b l n (suc (steps_a x)) (steps_b x) ≡ true
      → ((x' z' : List Step) → t ≡ x' ++ A ∷ z' → length x' < length x → says_b l n (suc (steps_a x')) (steps_b x') ≡ false)
      → TurnOf l n t (Some (record { at = length x; i = suc (steps_a x); j = steps_b x }))
  nowhere : ((x z : List Step) → t ≡ x ++ A ∷ z → says_b l n (suc (steps_a x)) (steps_b x) ≡ false) → TurnOf l n t None

-- one step of that walk, from (i,j)
pub record Looked (l : List ℕ) (n byte i j : ℕ) (r : Look) : Type 0 where
  pub on_a : byte ≡ 0 → (r.i ≡ i + 1) × (r.j ≡ j) × (r.turns ≡ says_b l n (i + 1) j)
  pub on_b : byte ≡ 1 → (r.i ≡ i) × (r.j ≡ j + 1) × (r.turns ≡ false)

pub record LookReady (l : List ℕ) (n byte i j : ℕ) : Type 0 where
  pub few : i + 1 ≤ 251
  pub few_b : n ≤ 250
  pub in_row : j ≤ n
  pub long : byte ≡ 0 → (i + 1 ≤ 250) × (room (cell_at n (i + 1) j + 1) ≤ length l)

-- the marks of a whole table, as far as a walk needs them
pub record Marked (l : List ℕ) (m n : ℕ) : Type 0 where
  pub leads : Leads l n m n
  pub no_b : (a : ℕ) → a ≤ m → says_b l n a 0 ≡ false

-- the strip t at the front, turned at its earliest place, or left as it is where there is none
pub data Turned (l : List ℕ) (n : ℕ) (t : List Step) (strip strip' : List ℕ) : Bool → Type 0 where
  turned : (x z : List Step) → t ≡ x ++ A ∷ z → says_b l n (suc (steps_a x)) (steps_b x) ≡ true
      → ((x' z' : List Step) → t ≡ x' ++ A ∷ z' → length x' < length x → says_b l n (suc (steps_a x')) (steps_b x') ≡ false)
      → strip' ≡ bytes (trace (says_a l n) (length x) (suc (steps_a x)) (pred (steps_b x)) ++ B ∷ z) ++ drop (length t) strip
      → Turned l n t strip strip' true
  left : ((x z : List Step) → t ≡ x ++ A ∷ z → says_b l n (suc (steps_a x)) (steps_b x) ≡ false) → strip' ≡ strip
      → Turned l n t strip strip' false

-- the strip t at the front of a part, and behind it the strip turned at its earliest place; or nothing changed where there is none
pub data Added (l : List ℕ) (n : ℕ) (t : List Step) (part part' : List ℕ) : Bool → Type 0 where
  added : (x z : List Step) → t ≡ x ++ A ∷ z → says_b l n (suc (steps_a x)) (steps_b x) ≡ true
      → ((x' z' : List Step) → t ≡ x' ++ A ∷ z' → length x' < length x → says_b l n (suc (steps_a x')) (steps_b x') ≡ false)
      → part' ≡ bytes t ++ (bytes (trace (says_a l n) (length x) (suc (steps_a x)) (pred (steps_b x)) ++ B ∷ z) ++ drop (length t + length t) part)
      → Added l n t part part' true
  stopped : ((x z : List Step) → t ≡ x ++ A ∷ z → says_b l n (suc (steps_a x)) (steps_b x) ≡ false) → part' ≡ part
      → Added l n t part part' false

-- whether the strip t can be turned anywhere
pub data CanTurn (l : List ℕ) (n : ℕ) (t : List Step) : Bool → Type 0 where
  can : (x z : List Step) → t ≡ x ++ A ∷ z → says_b l n (suc (steps_a x)) (steps_b x) ≡ true
      → ((x' z' : List Step) → t ≡ x' ++ A ∷ z' → length x' < length x → says_b l n (suc (steps_a x')) (steps_b x') ≡ false)
      → CanTurn l n t true
  cannot : ((x z : List Step) → t ≡ x ++ A ∷ z → says_b l n (suc (steps_a x)) (steps_b x) ≡ false) → CanTurn l n t false
