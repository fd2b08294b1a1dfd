-- Cells and bytes: fewer cells need no more bytes. Assumes nothing.
use mathlib.Core.Path.{◌≡◌, ap, ◌∙◌}
use mathlib.Core.List.{List, ◌++◌}
use Prim.Native.Nat.{ℕ, ◌≤◌}
use native.Mathlib.Omega.{arith}
use lib.ListN.{length, drop, replicate, length-append, length-replicate, length-drop}
use Rattle.joining.specs.Cells.{room}

pub room_fits : {a b l : ℕ} → a ≤ b → room b ≤ l → room a ≤ l
unfolding room
room_fits h k = omega arith

-- zeros at the front, the rest as it was: as long as before
pub zeroed_length : (k : ℕ) (l : List ℕ) → k ≤ length l → length (replicate k 0 ++ drop k l) ≡ length l
zeroed_length k l h =
    length-append (replicate k 0) (drop k l) ∙ omega (arith, length-replicate {A = ℕ} k 0, length-drop k l)

-- the used bytes zero, the rest as at the start
pub room_all : (n : ℕ) (l l' : List ℕ) → drop (room n) l' ≡ drop (room n) l → replicate (room n) 0 ++ drop (room n) l' ≡ replicate n 0 ++ drop n l
unfolding room
room_all n l l' e = ap (λ (r : List ℕ). replicate n 0 ++ r) e

pub room_needs : {n l : ℕ} → n ≤ l → room n ≤ l
unfolding room
room_needs h = h

pub room_same : (n : ℕ) {a b : ℕ} → a ≡ b → room n ≤ a → room n ≤ b
room_same n e h = omega arith
