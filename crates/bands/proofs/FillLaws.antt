-- One band after another: what `best` writes at the front of the part from where a band begins is that band's part of the strips, and
-- leaves the parts below as they were. The loop's invariant says so of the bands that are done. Assumes nothing.
use mathlib.Core.Path.{◌≡◌, refl, sym, ap, ap₂, ◌∙◌}
use mathlib.Core.List.{List, [], ◌++◌, append_assoc}
use Prim.Native.Nat.{ℕ, zero, suc, ◌+◌, ◌-◌, ◌*◌, ◌≤◌, ◌<◌}
use native.Mathlib.Decide.{ℕ_discrete}
use native.Mathlib.Numerals.{add-one}
use native.Mathlib.Omega.{arith}
use lib.IntN.{ℤ}
use lib.ListN.{length, take, drop, length-append, length-drop}
use lib.Seq.{take_all, take_at, drop_at, drop-drop, take-append-le, drop-append-le}
use borrow.Rule.Slice.PartMut.{put_mid, same_len_mid}
use Rattle.whole.proofs.Parts.{part_lent, part_back}
use Rattle.trace.specs.Points.{count}
use Rattle.strip.specs.Pair.{Pair}
use Rattle.ways.specs.Strip.{Step}
use Rattle.std.specs.Prelude.{Result, IsOk}
use Rattle.fault.specs.declared.Refusal.{Refusal}
use Rattle.strip.specs.Bytes.{bytes, IsStrip}
use Rattle.strip.proofs.BytesLaws.{is_strip_length}
use Rattle.joining.specs.Answers.{FirstOf, Enough, Given, Cleared, best_gates, BestAnswer}
use Rattle.joining.proofs.BestCases.{best_passed}
use Rattle.fault.proofs.GateLaws.{stopped_not_passed}
use Rattle.joining.specs.Answers as best-is
use Rattle.stack.specs.declared.Layer.{Layer}
use Rattle.stack.specs.declared.Band.{Band}
use Rattle.stack.specs.Entries.{entry, band_at, trace_of, steps, band_start}
use Rattle.stack.specs.Faults.{AcceptedStack}
use Rattle.stack.specs.Strips.{band_part}
use Rattle.stack.proofs.StackLaws.{accepted_points, accepted_pair, accepted_count, lower_is, upper_is, lower_count, upper_count, band_within, band_all}
use Rattle.bands.specs.Bands.{EnoughRoom, BandBest}
use Rattle.bands.specs.Filling.{cells, cells_to, BandReady, BandFilled, BandsFilled}
use Rattle.bands.proofs.CellLaws.{cells_all, cells_below, cells_within, zeroed, zeroed_twice, zeroed_length}

-- ---- one band

module _ {es : List Layer} {c : List ℤ} (a : AcceptedStack es c) where
  -- a first best strip between them is a strip of the band
  pub band_strip : (k : ℕ) → suc k < length es → {s : List Step} → FirstOf (trace_of c (entry es k)) (trace_of c (entry es (suc k))) s
      → IsStrip (entry es k).count (entry es (suc k)).count (bytes s)
  band_strip k h {s} f =
      rw (← accepted_points a k (omega arith), ← accepted_points a (suc k) h) (record { steps = s; written = refl; strip = f.best.is })

-- what `best` does where it cannot be refused
pub record Put (a b : List ℤ) (part work part' work' : List ℕ) : Type 0 where
  pub strip : List Step
  pub first : FirstOf a b strip
  pub given : Given a b strip part part'
  pub cleared : Cleared a b work work'

put_best : {a b : List ℤ} {part work part' work' : List ℕ} {r : Result ℤ Refusal} → Pair a b → Enough a b part work
    → BestAnswer a b part work part' work' r → Put a b part work part' work'
put_best {a} {b} {part} {work} p e (best-is.BestAnswer.refused {r = r} x _) =
    absurd (stopped_not_passed (best_gates a b part work) r x (best_passed p e))
put_best p e (best-is.BestAnswer.best _ s f g c) = record { strip = s; first = f; given = g; cleared = c }

ok_best : {a b : List ℤ} {part work part' work' : List ℕ} {r : Result ℤ Refusal} → Pair a b → Enough a b part work
    → BestAnswer a b part work part' work' r → IsOk r
ok_best {a} {b} {part} {work} p e (best-is.BestAnswer.refused {r = r} x _) =
    absurd (stopped_not_passed (best_gates a b part work) r x (best_passed p e))
ok_best p e (best-is.BestAnswer.best _ s f g c) = refl

module _ {es : List Layer} {c : List ℤ} {k : ℕ} {part work : List ℕ} (y : BandReady es c k part work) where
  lower_points : count (trace_of c (entry es k)) ≡ (entry es k).count
  lower_points = accepted_points y.stack k (omega (arith, y.band))

  upper_points : count (trace_of c (entry es (suc k))) ≡ (entry es (suc k)).count
  upper_points = accepted_points y.stack (suc k) y.band

  enough : Enough (trace_of c (entry es k)) (trace_of c (entry es (suc k))) part work
  enough = record { for_strip = rw (lower_points, upper_points) y.for_part; for_work = rw (lower_points, upper_points) y.for_work }

  module _ {b : Band} (p : b ≡ band_at es k) where
    pub band_small : b.lower.count + b.upper.count ≤ 500
    band_small = omega (
      arith,
      lower_count es k p,
      upper_count es k p,
      (accepted_count y.stack k (omega (arith, y.band))).many,
      (accepted_count y.stack (suc k) y.band).many,
    )

    module _ {x z : List ℤ} {part' work' : List ℕ} {r : Result ℤ Refusal} (ex : x ≡ trace_of c b.lower) (ez : z ≡ trace_of c b.upper)
        (g : BestAnswer x z part work part' work' r) where
      -- what was lent are the two traces
      answer : BestAnswer (trace_of c (entry es k)) (trace_of c (entry es (suc k))) part work part' work' r
      answer = rw (ex ∙ ap (trace_of c) (lower_is es k p), ez ∙ ap (trace_of c) (upper_is es k p)) at g

      pub band_ok : IsOk r
      band_ok = ok_best (accepted_pair y.stack k y.band) enough answer

      pub band_filled : {n : ℕ} → n ≡ b.lower.count + b.upper.count → BandFilled es c k part work part' work' n
      band_filled {n} e =
          let w = put_best (accepted_pair y.stack k y.band) enough answer in
          let steps : n ≡ (entry es k).count + (entry es (suc k)).count = e ∙ ap₂ ◌+◌ (lower_count es k p) (upper_count es k p) in
          record {
            steps = steps;
            strip = w.strip;
            first = w.first;
            front = w.given.front
                ∙ ap (λ (m : ℕ). bytes w.strip ++ drop m part) (ap₂ ◌+◌ lower_points upper_points ∙ sym steps);
            zeros = w.cleared.zeros
                ∙ ap₂ (λ (m n : ℕ). zeroed ((m + 1) * (n + 1)) work) lower_points upper_points;
          }

-- ---- the parts of the bands

-- a part that lies below what is added stays as it was
part_stays : (es : List Layer) (l x : List ℕ) (j : ℕ) → band_start es (suc j) ≤ length l → band_part es (l ++ x) j ≡ band_part es l j
unfolding band_part band_start
part_stays es l x j h =
    let n = (entry es j).count + (entry es (suc j)).count in
    ap (take n) (drop-append-le (band_start es j) l x (omega arith))
    ∙ take-append-le n (drop (band_start es j) l) x (omega (arith, length-drop (band_start es j) l))

-- and what is added is the next one's
part_added : (es : List Layer) (l x : List ℕ) (k : ℕ) → length l ≡ band_start es k
    → length x ≡ (entry es k).count + (entry es (suc k)).count → band_part es (l ++ x) k ≡ x
unfolding band_part
part_added es l x k h g =
    ap (take ((entry es k).count + (entry es (suc k)).count)) (drop_at l x (band_start es k) h)
    ∙ take_all ((entry es k).count + (entry es (suc k)).count) x (omega arith)

band_under : (es : List Layer) (d k n : ℕ) → d + k ≡ n → band_start es k ≤ band_start es n
unfolding band_start
band_under es zero k n h = let e : k ≡ n = omega arith in omega (arith, ap (band_start es) e)
band_under es (suc d) k zero h = omega arith
band_under es (suc d) k (suc n) h = omega (arith, band_under es d k n (omega arith))

band_below : (es : List Layer) (j k : ℕ) → j < k → band_start es (suc j) ≤ band_start es k
band_below es j k h = band_under es (k - suc j) (suc j) k (omega arith)

-- so the bands below k and then the first best strip of band k are those below the next
module _ {es : List Layer} {c : List ℤ} (a : AcceptedStack es c) {k : ℕ} (h : suc k < length es) {s : List Step}
    (f : FirstOf (trace_of c (entry es k)) (trace_of c (entry es (suc k))) s) where
  pub strip_long : length (bytes s) ≡ (entry es k).count + (entry es (suc k)).count
  strip_long = is_strip_length (band_strip a k h f)

  module _ (l : List ℕ) (e : length l ≡ band_start es k) where
    pub long_more : length (l ++ bytes s) ≡ band_start es (suc k)
    unfolding band_start
    long_more = length-append l (bytes s) ∙ ap₂ ◌+◌ e strip_long

    pub best_more : ((j : ℕ) → j < k → BandBest es c l j) → (j : ℕ) → j < suc k → BandBest es c (l ++ bytes s) j
    best_more old j b = go (ℕ_discrete j k)
      where
        go : Dec (j ≡ k) → BandBest es c (l ++ bytes s) j
        go (yes q) = rw q (record { strip = s; first = f; here = part_added es l (bytes s) k e strip_long })
        go (no d) =
            let low : j < k = omega arith in
            let one = old j low in record {
              strip = one.strip;
              first = one.first;
              here = part_stays es l (bytes s) j (omega (arith, band_below es j k low)) ∙ one.here;
            }

-- ---- the loop over the bands

-- the bands below k are done, and band k begins at `at`
pub record BandsSo (es : List Layer) (c : List ℤ) (k at : ℕ) (strips₀ work₀ strips work : List ℕ) : Type 0 where
  pub here : k < length es
  pub start : at ≡ band_start es k
  pub written : List ℕ
  pub long : length written ≡ at
  pub best : (j : ℕ) → j < k → BandBest es c written j
  pub front : strips ≡ written ++ drop at strips₀
  pub zeros : work ≡ zeroed (cells_to es k) work₀
  pub strips_long : length strips ≡ length strips₀
  pub work_long : length work ≡ length work₀

pub bands_begun : {es : List Layer} {c : List ℤ} (strips work : List ℕ) → AcceptedStack es c → BandsSo es c 0 0 strips work strips work
unfolding band_start cells_to
bands_begun {es} {c} strips work a = record {
  here = omega (arith, a.layers.two);
  start = refl;
  written = [];
  long = refl;
  best = λ j h. absurd (none j h);
  front = refl;
  zeros = refl;
  strips_long = refl;
  work_long = refl;
}
  where
    none : (j : ℕ) → j < 0 → ⊥
    none j h = omega arith

module _ {es : List Layer} {c : List ℤ} {k at : ℕ} {strips₀ work₀ strips work : List ℕ} (a : AcceptedStack es c)
    (m : EnoughRoom es strips₀ work₀) (s : BandsSo es c k at strips₀ work₀ strips work) where
  -- the steps up to the end of band k
  ends_within : suc k < length es → band_start es (suc k) ≤ length strips
  ends_within h = omega (arith, band_within es k h, m.for_strips, s.strips_long)

  pub room_left : suc k < length es → at + ((entry es k).count + (entry es (suc k)).count) ≤ length strips
  unfolding band_start
  room_left h = omega (arith, ends_within h, s.start)

  pub work_left : suc k < length es → cells es k ≤ length work
  work_left h = omega (arith, cells_within es k h, m.for_work, s.work_long)

  module _ (h : suc k < length es) {part' work' : List ℕ} {n : ℕ}
      (f : BandFilled es c k (take (length strips - at) (drop at strips)) work part' work' n)
      (g : length part' ≡ length (take (length strips - at) (drop at strips))) where
    rest : drop at strips ≡ drop at strips₀
    rest = ap (drop at) s.front ∙ drop_at s.written (drop at strips₀) at s.long

    next_front : put_mid at (length strips - at) strips part' ≡ (s.written ++ bytes f.strip) ++ drop (at + n) strips₀
    next_front =
        part_back at strips part'
        ∙ ap₂ ◌++◌ (ap (take at) s.front ∙ take_at s.written (drop at strips₀) at s.long)
        (f.front ∙ ap (λ (r : List ℕ). bytes f.strip ++ drop n r) (part_lent at strips ∙ rest)
        ∙ ap (λ (r : List ℕ). bytes f.strip ++ r) (drop-drop n at strips₀))
        ∙ sym (append_assoc s.written (bytes f.strip) (drop (at + n) strips₀))

    next_zeros : work' ≡ zeroed (cells_to es (suc k)) work₀
    unfolding cells_to
    next_zeros =
        f.zeros ∙ ap (zeroed (cells es k)) s.zeros
        ∙ zeroed_twice (cells_to es k) (cells es k) work₀
        (omega (arith, cells_below es k (omega arith), m.for_work)) (omega (arith, cells_within es k h, m.for_work))

    pub bands_more : BandsSo es c (k + 1) (at + n) strips₀ work₀ (put_mid at (length strips - at) strips part') work'
    unfolding band_start
    bands_more = rw (add-one k) (record {
      here = h;
      start = omega (arith, s.start, f.steps);
      written = s.written ++ bytes f.strip;
      long = length-append s.written (bytes f.strip) ∙ ap₂ ◌+◌ s.long (strip_long a h f.first ∙ sym f.steps);
      best = best_more a h f.first s.written (s.long ∙ s.start) s.best;
      front = next_front;
      zeros = next_zeros;
      strips_long = same_len_mid at (length strips - at) strips part' g ∙ s.strips_long;
      work_long = ap length next_zeros
          ∙ zeroed_length (cells_to es (suc k)) work₀ (omega (arith, cells_below es (suc k) h, m.for_work));
    })

  pub bands_done : length es ≤ k + 1 → BandsFilled es c strips₀ work₀ strips work
  bands_done h =
      let top : k ≡ length es - 1 = omega (arith, s.here) in
      let all : at ≡ steps es = s.start ∙ band_all es k top in record {
        written = s.written;
        best = record { long = s.long ∙ all; best = λ j b. s.best j (omega arith) };
        front = s.front ∙ ap (λ (n : ℕ). s.written ++ drop n strips₀) all;
        zeros = s.zeros ∙ ap (λ (n : ℕ). zeroed n work₀) (cells_all es k top);
      }
