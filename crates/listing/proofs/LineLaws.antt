-- What was written: one part behind another, the letters of a strip one by one; and the room that is left for the rest of a line.
-- Assumes nothing.
use mathlib.Core.Path.{◌≡◌, sym, ap, ap₂, ◌∙◌, subst}
use mathlib.Core.List.{List, [], ◌∷◌, ◌++◌, map, append_assoc, append-nil}
use Prim.Native.Nat.{ℕ, ◌+◌, ◌/◌, ◌%◌, ◌≤◌, ◌<◌}
use native.Mathlib.Numerals.{add-one}
use native.Mathlib.Omega.{arith}
use lib.ListN.{length, take, drop, get_or, length-append, length-drop, length-map, take-append-drop}
use lib.Seq.{length-take-le, take_all, take_at, take-suc, drop-append-add, drop-drop}
use Rattle.std.proofs.lemmas.List.{map-append}
use Rattle.strip.specs.Bytes.{step_of, steps_of}
use Rattle.listing.specs.Numeral.{digits_of}
use Rattle.listing.specs.Lines.{fields, letter, strip_line}
use Rattle.listing.specs.Writing.{Room, Wrote}
use Rattle.listing.proofs.NumeralLaws.{digits_one, digits_tenth}
use Rattle.listing.proofs.LengthLaws.{strip_length}

-- nothing yet
pub wrote_none : {out : List ℕ} {k : ℕ} → k ≤ length out → Wrote out k [] out k
wrote_none {out} {k} h = record {
  next = omega arith;
  room = h;
  whole = sym (take-append-drop k out) ∙ ap (λ (x : List ℕ). x ++ drop k out) (sym (append-nil (take k out)));
}

-- the first part of what was written, with what stands before it
front_length : {out : List ℕ} {k : ℕ} {p out' : List ℕ} {n : ℕ} → Wrote out k p out' n → length (take k out ++ p) ≡ n
front_length {out} {k} {p} {out'} {n} w =
    length-append (take k out) p ∙ ap (λ (m : ℕ). m + length p) (length-take-le k out (omega (arith, w.next, w.room))) ∙ sym w.next

pub wrote_length : {out : List ℕ} {k : ℕ} {p out' : List ℕ} {n : ℕ} → Wrote out k p out' n → length out' ≡ length out
wrote_length {out} {k} {p} {out'} {n} w =
    ap length w.whole ∙ length-append (take k out ++ p) (drop n out)
    ∙ omega (arith, front_length w, length-drop n out, w.room)

-- one part behind another
pub wrote_then : {out : List ℕ} {k : ℕ} {p out₁ : List ℕ} {n : ℕ} {q out₂ : List ℕ} {m : ℕ} → Wrote out k p out₁ n → Wrote out₁ n q out₂ m
    → Wrote out k (p ++ q) out₂ m
wrote_then {out} {k} {p} {out₁} {n} {q} {out₂} {m} w v = record {
  next = v.next ∙ ap (λ (j : ℕ). j + length q) w.next ∙ omega (arith, length-append p q);
  room = omega (arith, v.room, wrote_length w);
  whole =
      v.whole
      ∙ ap₂ (λ (x y : List ℕ). x ++ q ++ y) (ap (take n) w.whole ∙ take_at (take k out ++ p) (drop n out) n (front_length w)) behind
      ∙ ap (λ (l : List ℕ). l ++ drop m out) (append_assoc (take k out) p q);
}
  where
    behind : drop m out₁ ≡ drop m out
    behind =
        ap₂ (λ (j : ℕ) (l : List ℕ). drop j l) (v.next ∙ ap (λ (j : ℕ). j + length q) (sym (front_length w))) w.whole
        ∙ drop-append-add (take k out ++ p) (drop n out) (length q)
        ∙ drop-drop (length q) n out ∙ ap (λ (j : ℕ). drop j out) (sym v.next)

-- the list that was lent to a page, and what the page holds of it
pub wrote_page : {out : List ℕ} {k : ℕ} {p out' out'' : List ℕ} {n m : ℕ} → Wrote out k p out' n → m ≡ n → out'' ≡ out'
    → Wrote out k p out'' m
wrote_page {out} {k} {p} w e f = rw (e, f) w

-- two outcomes of one writing coincide
pub wrote_unique : {out : List ℕ} {k : ℕ} {p out₁ out₂ : List ℕ} {n₁ n₂ : ℕ} → Wrote out k p out₁ n₁ → Wrote out k p out₂ n₂
    → (out₁ ≡ out₂) × (n₁ ≡ n₂)
wrote_unique {out} {k} {p} w v =
    let e = w.next ∙ sym v.next in
    (w.whole ∙ ap (λ (n : ℕ). take k out ++ p ++ drop n out) e ∙ sym v.whole, e)

-- room for the first part of what is to be written, and for the rest of it where the first part was written
pub room_first : {out : List ℕ} {k : ℕ} (p q : List ℕ) → Room out k (p ++ q) → Room out k p
room_first p q r = record { fits = omega (arith, r.fits, length-append p q) }

pub room_rest : {out : List ℕ} {k : ℕ} {p out' : List ℕ} {n : ℕ} (q : List ℕ) → Wrote out k p out' n → Room out k (p ++ q) → Room out' n q
room_rest {out} {k} {p} {out'} {n} q w r = record { fits = omega (arith, r.fits, length-append p q, w.next, wrote_length w) }

-- two fields and the end of a line: room for each part where those before it were written, and all of them
module _ {out : List ℕ} {k : ℕ} (f g : List ℕ) (r : Room out k (fields f g)) where
  pub field_first : Room out k f
  unfolding fields
  field_first = room_first f (32 ∷ (g ++ 10 ∷ [])) r

  module _ {out₁ : List ℕ} {n₁ : ℕ} (w₁ : Wrote out k f out₁ n₁) where
    pub field_space : Room out₁ n₁ (32 ∷ [])
    unfolding fields
    field_space = room_first (32 ∷ []) (g ++ 10 ∷ []) (room_rest (32 ∷ (g ++ 10 ∷ [])) w₁ r)

    module _ {out₂ : List ℕ} {n₂ : ℕ} (w₂ : Wrote out₁ n₁ (32 ∷ []) out₂ n₂) where
      both_left : Room out₂ n₂ (g ++ 10 ∷ [])
      unfolding fields
      both_left = room_rest (g ++ 10 ∷ []) w₂ (room_rest (32 ∷ (g ++ 10 ∷ [])) w₁ r)

      pub field_second : Room out₂ n₂ g
      field_second = room_first g (10 ∷ []) both_left

      module _ {out₃ : List ℕ} {n₃ : ℕ} (w₃ : Wrote out₂ n₂ g out₃ n₃) where
        pub field_end : Room out₃ n₃ (10 ∷ [])
        field_end = room_rest (10 ∷ []) w₃ both_left

        pub fields_wrote : {out₄ : List ℕ} {n₄ : ℕ} → Wrote out₃ n₃ (10 ∷ []) out₄ n₄ → Wrote out k (fields f g) out₄ n₄
        unfolding fields
        fields_wrote w₄ = wrote_then w₁ (wrote_then w₂ (wrote_then w₃ w₄))

-- the digits of a number: one, or those of a tenth and one more
pub room_digit : {out : List ℕ} {k : ℕ} (v : ℕ) → v < 10 → Room out k (digits_of v) → Room out k ((48 + v) ∷ [])
room_digit {out} {k} v h r = subst (Room out k) (digits_one v h) r

pub room_digits : {out : List ℕ} {k : ℕ} (v : ℕ) → 10 ≤ v → Room out k (digits_of v) → Room out k (digits_of (v / 10) ++ (48 + v % 10) ∷ [])
room_digits {out} {k} v h r = subst (Room out k) (digits_tenth v h) r

pub wrote_digit : {out : List ℕ} {k : ℕ} {out' : List ℕ} {n : ℕ} (v : ℕ) → v < 10 → Wrote out k ((48 + v) ∷ []) out' n
    → Wrote out k (digits_of v) out' n
wrote_digit {out} {k} {out'} {n} v h w = subst (λ (l : List ℕ). Wrote out k l out' n) (sym (digits_one v h)) w

pub wrote_digits : {out : List ℕ} {k : ℕ} {out₁ : List ℕ} {n : ℕ} {out₂ : List ℕ} {m : ℕ} (v : ℕ) → 10 ≤ v
    → Wrote out k (digits_of (v / 10)) out₁ n
    → Wrote out₁ n ((48 + v % 10) ∷ []) out₂ m → Wrote out k (digits_of v) out₂ m
wrote_digits {out} {k} {out₁} {n} {out₂} {m} v h w u =
    subst (λ (l : List ℕ). Wrote out k l out₂ m) (sym (digits_tenth v h)) (wrote_then w u)

-- ---- the letters of a strip, of which j are written

pub record LettersPut (out₀ : List ℕ) (at : ℕ) (strip : List ℕ) (j : ℕ) (out : List ℕ) (next : ℕ) : Type 0 where
  pub wrote : Wrote out₀ at (map letter (steps_of (take j strip))) out next

pub letters_begun : {out : List ℕ} {at : ℕ} {strip : List ℕ} → Room out at (strip_line (steps_of strip)) → LettersPut out at strip 0 out at
letters_begun r = record { wrote = wrote_none (omega (arith, r.fits)) }

module _ {out₀ : List ℕ} {at : ℕ} {strip : List ℕ} {j : ℕ} {out : List ℕ} {next : ℕ} (so : LettersPut out₀ at strip j out next) where
  -- there is room for the next, and for the end of the line
  pub letters_room : (b : ℕ) → j ≤ length strip → Room out₀ at (strip_line (steps_of strip)) → Room out next (b ∷ [])
  letters_room b h r = record {
    fits = omega (
      arith,
      r.fits,
      strip_length (steps_of strip),
      length-map strip step_of,
      so.wrote.next,
      length-map (steps_of (take j strip)) letter,
      length-map (take j strip) step_of,
      length-take-le j strip h,
      wrote_length so.wrote,
    );
  }

  pub letters_more : {out' : List ℕ} {next' : ℕ} {b : ℕ} → j < length strip → b ≡ letter (step_of (get_or strip j 0))
      → Wrote out next (b ∷ []) out' next'
      → LettersPut out₀ at strip (j + 1) out' next'
  letters_more {out'} {next'} {b} h e w = record {
    wrote = subst (λ (l : List ℕ). Wrote out₀ at l out' next') letters (wrote_then so.wrote w);
  }
    where
      letters : map letter (steps_of (take j strip)) ++ b ∷ [] ≡ map letter (steps_of (take (j + 1) strip))
      letters =
          ap (λ (x : ℕ). map letter (steps_of (take j strip)) ++ x ∷ []) e
          ∙ sym (ap (map letter) (map-append step_of (take j strip) (get_or strip j 0 ∷ []))
          ∙ map-append letter (steps_of (take j strip)) (step_of (get_or strip j 0) ∷ []))
          ∙ sym (ap (λ (l : List ℕ). map letter (steps_of l)) (ap (λ (n : ℕ). take n strip) (add-one j) ∙ take-suc strip j 0 h))

  pub letters_done : {out' : List ℕ} {next' : ℕ} → length strip ≤ j → Wrote out next (10 ∷ []) out' next'
      → Wrote out₀ at (strip_line (steps_of strip)) out' next'
  unfolding strip_line
  letters_done {out'} {next'} h w =
      subst (λ (l : List ℕ). Wrote out₀ at (map letter (steps_of l) ++ 10 ∷ []) out' next') (take_all j strip h) (wrote_then so.wrote w)
