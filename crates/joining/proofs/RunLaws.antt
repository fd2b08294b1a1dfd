-- A run of lines: the lines written are the beginning of the whole list of best strips, and the last of them stands where the next
-- one is turned from. Assumes nothing.
use mathlib.Core.Path.{◌≡◌, refl, sym, ap, ap₂, ◌∙◌, subst}
use mathlib.Core.Bool.{Bool, true, false}
use mathlib.Core.List.{List, [], ◌∷◌, ◌++◌, append_assoc, append-nil}
use Prim.Native.Nat.{ℕ, zero, suc, pred, ◌+◌, ◌*◌, ◌≤◌, ◌<◌}
use native.Mathlib.Omega.{arith}
use native.Mathlib.Nat.{mul-le-mul_right, zero-mul}
use lib.IntN.{ℤ}
use lib.ListN.{length, take, drop, length-append}
use lib.Seq.{take_at, drop_at, drop-drop}
use Rattle.ways.specs.Strip.{Step, B, steps_a, steps_b, Strip}
use Rattle.ways.specs.Value.{Worths, value}
use Rattle.ways.specs.Keppel.{trace, traced}
use Rattle.ways.specs.Best.{Best, NextBest, NoneLeft, Onward, end, on, Listed}
use Rattle.ways.proofs.Greatest.{strip_length}
use Rattle.ways.proofs.Traced.{traced_first}
use Rattle.ways.proofs.Runs.{Chain, one, more, chain_onward, onward_head, onward_exists, list_exists}
use Rattle.strip.specs.Bytes.{bytes, IsStrip}
use Rattle.strip.proofs.BytesLaws.{bytes_length}
use Rattle.joining.specs.Table.{Tabled}
use Rattle.joining.specs.Walking.{says_a, Added, added, stopped, CanTurn, can, cannot}
use Rattle.joining.specs.Listing.{lined}
use Rattle.joining.specs.Lines.{BeginningOf, all, some, WroteLines}
use Rattle.joining.proofs.MarkLaws.{filled_trace}
use Rattle.joining.proofs.NextLaws.{turned_next, left_none}

-- ---- lines as lists

lined_more : (k : List (List Step)) (s : List Step) → lined (k ++ s ∷ []) ≡ lined k ++ bytes s
unfolding lined
lined_more [] s = append-nil (bytes s)
lined_more (t ∷ k) s = ap (λ (r : List ℕ). bytes t ++ r) (lined_more k s) ∙ sym (append_assoc (bytes t) (lined k) (bytes s))

one_line : (s : List Step) → lined (s ∷ []) ≡ bytes s
unfolding lined
one_line s = append-nil (bytes s)

-- ---- a run of count lines, the last of them at `last`

pub record LinesSo (w : Worths) (m n : ℕ) (lines₀ : List ℕ) (count last : ℕ) (lines : List ℕ) : Type 0 where
  pub strips : List (List Step)
  pub final : List Step
  pub chain : Chain (Strip m n) (value w) (traced w m n) strips final
  pub best : Best (Strip m n) (value w) final
  pub counted : count ≡ length strips
  pub placed : last + (m + n) ≡ count * (m + n)
  pub kept : length lines ≡ length lines₀
  pub earlier : List ℕ
  pub long : length earlier ≡ last
  pub whole : earlier ++ bytes final ≡ lined strips
  pub list : lines ≡ earlier ++ (bytes final ++ drop (count * (m + n)) lines₀)

strip_bytes_lem : {m n : ℕ} {t : List Step} → Strip m n t → length (bytes t) ≡ m + n
strip_bytes_lem {t = t} s = bytes_length t ∙ strip_length s

module _ {w : Worths} {m n : ℕ} where
  -- the first line, as it is traced
  pub lines_begun : {l l' : List ℕ} {r : ℤ} (lines lines₁ : List ℕ) → Tabled w m n l l' r → m + n ≤ length lines
      → lines₁ ≡ bytes (trace (says_a l' n) (m + n) m n) ++ drop (m + n) lines → LinesSo w m n lines₁ 1 0 lines₁
  lines_begun {l} {l'} lines lines₁ f h e =
      let first = (traced_first w m n).best in
      let front : lines₁ ≡ bytes (traced w m n) ++ drop (m + n) lines =
      e ∙ ap (λ (t : List Step). bytes t ++ drop (m + n) lines) (filled_trace f (m + n) m n (omega arith) (omega arith)) in
      let k : 1 * (m + n) ≡ m + n = omega arith in
      record {
        strips = traced w m n ∷ [];
        final = traced w m n;
        chain = one (traced w m n);
        best = first;
        counted = refl;
        placed = omega arith;
        kept = refl;
        earlier = [];
        long = refl;
        whole = sym (one_line (traced w m n));
        list = front
            ∙ ap (λ (r : List ℕ). bytes (traced w m n) ++ r)
            (sym (ap₂ (λ (a : ℕ) (r : List ℕ). drop a r) k front ∙ drop_at (bytes (traced w m n)) (drop (m + n) lines) (m + n) (strip_bytes_lem first.is)));
      }

  module _ {lines₀ lines : List ℕ} {count last : ℕ} (so : LinesSo w m n lines₀ count last lines) where
    -- what is lent: the last line and what is behind it
    pub lent : drop last lines ≡ bytes so.final ++ drop (count * (m + n)) lines₀
    lent = ap (drop last) so.list ∙ drop_at so.earlier (bytes so.final ++ drop (count * (m + n)) lines₀) last so.long

    pub before_last : take last lines ≡ so.earlier
    before_last = ap (take last) so.list ∙ take_at so.earlier (bytes so.final ++ drop (count * (m + n)) lines₀) last so.long

    -- the run with its last strip, from the first on
    listed : (rest : List (List Step)) → Onward (Strip m n) (value w) so.final (so.final ∷ rest) → Listed (Strip m n) (value w) (so.strips ++ rest)
    listed rest o = record { start = traced w m n; first = traced_first w m n; onward = chain_onward so.chain rest o }

    pub lines_all : NoneLeft (Strip m n) (value w) so.final → Listed (Strip m n) (value w) so.strips
    lines_all x = subst (Listed (Strip m n) (value w)) (append-nil so.strips) (listed [] (end x))

    pub lines_some : {t : List Step} → NextBest (Strip m n) (value w) so.final t
        → (rest : List (List Step)) × Listed (Strip m n) (value w) (so.strips ++ t ∷ rest)
    lines_some {t} x =
        let o = onward_exists w x.best in
        let h = onward_head o.1 in
        (h.0, listed (t ∷ h.0) (on x (subst (Onward (Strip m n) (value w) t) h.1 o.1)))

  -- one line more
  pub lines_more : {l l' : List ℕ} {r : ℤ} {lines₀ lines part' : List ℕ} {count last : ℕ} → Tabled w m n l l' r
      → (so : LinesSo w m n lines₀ count last lines) → Added l' n so.final (drop last lines) part' true
      → length (take last lines ++ part') ≡ length lines → LinesSo w m n lines₀ (count + 1) (last + (m + n)) (take last lines ++ part')
  lines_more {l} {l'} {r} {lines₀} {lines} {part'} {count} {last} f so (added x z e y early q) long =
      let t : List Step = trace (says_a l' n) (length x) (suc (steps_a x)) (pred (steps_b x)) ++ B ∷ z in
      let after : NextBest (Strip m n) (value w) so.final t = turned_next f so.best x z e y early in
      let twice : length so.final + length so.final ≡ m + n + (m + n) = let h = strip_length so.best.is in omega (arith, h) in
      let sum : count * (m + n) + (m + n) ≡ (count + 1) * (m + n) = omega arith in
      let rest : drop (length so.final + length so.final) (drop last lines) ≡ drop ((count + 1) * (m + n)) lines₀ =
      ap₂ (λ (a : ℕ) (p : List ℕ). drop a p) twice (lent so)
      ∙ sym (drop-drop (m + n) (m + n) (bytes so.final ++ drop (count * (m + n)) lines₀))
      ∙ ap (drop (m + n)) (drop_at (bytes so.final) (drop (count * (m + n)) lines₀) (m + n) (strip_bytes_lem so.best.is))
      ∙ drop-drop (m + n) (count * (m + n)) lines₀ ∙ ap (λ (a : ℕ). drop a lines₀) sum in
      record {
        strips = so.strips ++ t ∷ [];
        final = t;
        chain = more so.chain after;
        best = after.best;
        counted = sym (length-append so.strips (t ∷ []) ∙ ap (λ (a : ℕ). a + 1) (sym so.counted));
        placed = omega (arith, so.placed);
        kept = long ∙ so.kept;
        earlier = so.earlier ++ bytes so.final;
        long = length-append so.earlier (bytes so.final) ∙ ap₂ (λ (a b : ℕ). a + b) so.long (strip_bytes_lem so.best.is);
        whole = ap (λ (r : List ℕ). r ++ bytes t) so.whole ∙ sym (lined_more so.strips t);
        list = ap₂ (λ (a b : List ℕ). a ++ b) (before_last so) (q ∙ ap (λ (r : List ℕ). bytes so.final ++ (bytes t ++ r)) rest)
            ∙ sym (append_assoc so.earlier (bytes so.final) (bytes t ++ drop ((count + 1) * (m + n)) lines₀));
      }

  -- ---- the end

  -- the front of the slice at the end, against the slice at the start
  ending : {lines₀ lines : List ℕ} {count last : ℕ} (start : List ℕ) → 1 ≤ count
      → (s : List Step) → length (bytes s) ≡ m + n → lines₀ ≡ bytes s ++ drop (m + n) start
      → (so : LinesSo w m n lines₀ count last lines) → lines ≡ lined so.strips ++ drop (length so.strips * (m + n)) start
  ending {lines₀} {lines} {count} start h s b e so =
      so.list ∙ sym (append_assoc so.earlier (bytes so.final) (drop (count * (m + n)) lines₀))
      ∙ ap₂ (λ (a c : List ℕ). a ++ c) so.whole (behind count h) ∙ ap (λ (a : ℕ). lined so.strips ++ drop (a * (m + n)) start) so.counted
    where
      behind : (c : ℕ) → 1 ≤ c → drop (c * (m + n)) lines₀ ≡ drop (c * (m + n)) start
      behind zero h = absurd (none h)
        where
          none : 1 ≤ 0 → ⊥
          none h = omega arith
      behind (suc c) h =
          let k : suc c * (m + n) ≡ m + n + c * (m + n) = omega arith in
          ap₂ (λ (a : ℕ) (r : List ℕ). drop a r) k e
          ∙ sym (drop-drop (c * (m + n)) (m + n) (bytes s ++ drop (m + n) start))
          ∙ ap (drop (c * (m + n))) (drop_at (bytes s) (drop (m + n) start) (m + n) b)
          ∙ drop-drop (c * (m + n)) (m + n) start ∙ ap (λ (a : ℕ). drop a start) (sym k)

  pub wrote : {lines₀ lines : List ℕ} {count last limit : ℕ} {go_on : Bool} (start : List ℕ) → (so : LinesSo w m n lines₀ count last lines) → 1 ≤ count
      → (s : List Step) → length (bytes s) ≡ m + n → lines₀ ≡ bytes s ++ drop (m + n) start → BeginningOf w m n limit so.strips go_on
      → WroteLines w m n limit start lines (record { count = count; more = go_on })
  wrote start so h s b e x = record { strips = so.strips; counted = so.counted; beginning = x; front = ending start h s b e so }

  pub stopped_all : {l l' : List ℕ} {r : ℤ} {lines₀ lines part' : List ℕ} {count last limit : ℕ} → Tabled w m n l l' r
      → (so : LinesSo w m n lines₀ count last lines) → count ≤ limit → Added l' n so.final (drop last lines) part' false
      → BeginningOf w m n limit so.strips false
  stopped_all f so h (stopped none q) = all (lines_all so (left_none f so.best none)) (omega (arith, so.counted))

  pub turn_beginning : {l l' : List ℕ} {r : ℤ} {lines₀ lines : List ℕ} {count last limit : ℕ} {go_on : Bool} → Tabled w m n l l' r
      → (so : LinesSo w m n lines₀ count last lines) → count ≡ limit → CanTurn l' n so.final go_on → BeginningOf w m n limit so.strips go_on
  turn_beginning f so h (can x z e y early) =
      let later = lines_some so (turned_next f so.best x z e y early) in
      some _ later.0 later.1 (sym so.counted ∙ h)
  turn_beginning f so h (cannot none) = all (lines_all so (left_none f so.best none)) (omega (arith, so.counted, h))

  -- ---- as the slices are lent

  pub as_lent : {lines₀ lines : List ℕ} {count last : ℕ} (so : LinesSo w m n lines₀ count last lines) (part : List ℕ) → part ≡ drop last lines
      → IsStrip m n (take (m + n) part)
  as_lent {lines₀} {count = count} so part e = record {
    steps = so.final;
    written =
        ap (take (m + n)) (e ∙ lent so) ∙ take_at (bytes so.final) (drop (count * (m + n)) lines₀) (m + n) (strip_bytes_lem so.best.is);
    strip = so.best.is;
  }

  pub lent_added : {l : List ℕ} {lines₀ lines : List ℕ} {count last : ℕ} {part' : List ℕ} {r : Bool} (so : LinesSo w m n lines₀ count last lines)
      (part : List ℕ) → part ≡ drop last lines → ((s : IsStrip m n (take (m + n) part)) → Added l n s.steps part part' r)
      → Added l n so.final (drop last lines) part' r
  unfolding as_lent
  lent_added {l} {part' = part'} {r = r} so part e f = subst (λ (p : List ℕ). Added l n so.final p part' r) e (f (as_lent so part e))

  pub lent_turns : {l : List ℕ} {lines₀ lines : List ℕ} {count last : ℕ} {r : Bool} (so : LinesSo w m n lines₀ count last lines)
      (part : List ℕ) → part ≡ drop last lines → ((s : IsStrip m n (take (m + n) part)) → CanTurn l n s.steps r) → CanTurn l n so.final r
  unfolding as_lent
  lent_turns so part e f = f (as_lent so part e)

  -- the first line, as `wrote` asks it
  pub first_line : {l l' : List ℕ} {r : ℤ} (lines : List ℕ) {lines₁ : List ℕ} → Tabled w m n l l' r
      → lines₁ ≡ bytes (trace (says_a l' n) (m + n) m n) ++ drop (m + n) lines
      → (s : List Step) × (length (bytes s) ≡ m + n) × (lines₁ ≡ bytes s ++ drop (m + n) lines)
  first_line {l} {l'} lines f e = (
    traced w m n,
    strip_bytes_lem (traced_first w m n).best.is,
    e ∙ ap (λ (t : List Step). bytes t ++ drop (m + n) lines) (filled_trace f (m + n) m n (omega arith) (omega arith)),
  )

  -- where the last line stands: one line more has room while the limit is not reached
  pub fits_one : {lines₀ lines : List ℕ} {count last : ℕ} (limit : ℕ) → LinesSo w m n lines₀ count last lines → limit * (m + n) ≤ length lines₀
      → count ≤ limit → last + (m + n) ≤ length lines
  fits_one {count = count} limit so h k = omega (arith, so.placed, so.kept, mul-le-mul_right {m = count} {n = limit} (m + n) k)

  pub fits_two : {lines₀ lines : List ℕ} {count last : ℕ} (limit : ℕ) → LinesSo w m n lines₀ count last lines → limit * (m + n) ≤ length lines₀
      → count < limit → last + (m + n + (m + n)) ≤ length lines
  fits_two {count = count} limit so h k = omega (arith, so.placed, so.kept, mul-le-mul_right {m = count + 1} {n = limit} (m + n) (omega arith))

-- ---- what `add_line` answered

pub added_as : {l : List ℕ} {n : ℕ} {t : List Step} {part part' : List ℕ} {r r' : Bool} → r ≡ r' → Added l n t part part' r → Added l n t part part' r'
added_as {l} {n} {t} {part} {part'} e x = subst (Added l n t part part') e x

pub stopped_same : {l : List ℕ} {n : ℕ} {t : List Step} {part part' : List ℕ} → Added l n t part part' false → part' ≡ part
stopped_same (stopped none q) = q

-- nothing is written for no limit, and there is a best strip that remains
pub nothing_written : (w : Worths) (m n limit : ℕ) (lines : List ℕ) → limit ≡ 0 → WroteLines w m n limit lines lines (record { count = 0; more = true })
unfolding lined
nothing_written w m n limit lines e =
    let l = list_exists w m n in
    let h = onward_head l.1.onward in
    record {
      strips = [];
      counted = refl;
      beginning = some l.1.start h.0 (subst (Listed (Strip m n) (value w)) h.1 l.1) (sym e);
      front = ap (λ (k : ℕ). drop k lines) (sym (zero-mul (m + n)));
    }
