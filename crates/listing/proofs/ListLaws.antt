-- The run of best strips, listed: the strips that are cut from the bytes that `list_best` wrote are those strips, since each has as many
-- steps as a strip between the two traces; their lines fit the room for the longest listing. Assumes nothing.
use mathlib.Core.Path.{◌≡◌, refl, sym, ap, ap₂, ◌∙◌, subst}
use mathlib.Core.Bool.{Bool, true, false}
use mathlib.Core.List.Memᴰ
use mathlib.Core.List.{List, [], ◌∷◌, ◌++◌, append_assoc, Memᴰ}
use Prim.Native.Nat.{ℕ, ◌+◌, ◌*◌, ◌≤◌}
use native.Mathlib.Omega.{arith}
use native.Mathlib.Nat.{mul-le-mul}
use lib.IntN.{ℤ}
use lib.ListN.{length, take, drop, length-append, length-take}
use lib.Seq.{take_at, drop_at}
use mir.Syntax.{w64}
use mir.Val.{SFits}
use Rattle.std.proofs.Common.{Ok, Err}
use Rattle.fault.specs.declared.Refusal.{Refusal}
use Rattle.trace.specs.Points.{count}
use Rattle.strip.specs.Pair.{Pair}
use Rattle.fault.proofs.GateLaws.{stopped_not_passed}
use Rattle.joining.proofs.ListCases.{list_passed}
use Rattle.ways.specs.Strip.{Step}
use Rattle.ways.proofs.Greatest.{strip_length}
use Rattle.ways.proofs.Complete.{listed_best}
use Rattle.ways.proofs.Unique.{best_same}
use Rattle.ways.proofs.Runs.{onward_head}
use Rattle.strip.specs.Worth.{value_of}
use Rattle.strip.specs.Band.{band_six}
use Rattle.strip.specs.Bytes.{bytes, steps_of, IsStrip}
use Rattle.strip.proofs.BytesLaws.{bytes_length, steps_bytes}
use Rattle.joining.specs.Answers.{FirstOf}
use Rattle.joining.specs.Listing.{Beginning, all, some, lined, EnoughLines, ListAnswer, listed, list_gates}
use Rattle.joining.specs.Listing as Joining
use Rattle.joining.specs.declared.Run.{Run}
use Rattle.listing.specs.Lines.{value_line, strip_lines, end_line, more_line}
use Rattle.listing.specs.Writing.{Room, strips_in}
use Rattle.listing.specs.Listing.{last_line, BestLines, lines, longest}
use Rattle.listing.specs.Telling.{lines_of}
use Rattle.listing.proofs.LengthLaws.{value_short}
use Rattle.listing.proofs.StripLines.{lines_length}

-- ---- strips of equal length, one after the other

abbrev Sized : ℕ → List (List Step) → Type 0
Sized steps l = (t : List Step) → Memᴰ t l → length t ≡ steps

first_sized : {steps : ℕ} {s : List Step} {l : List (List Step)} → Sized steps (s ∷ l) → length (bytes s) ≡ steps
first_sized {s = s} f = bytes_length s ∙ f s (Memᴰ.head refl)

lined_length : (steps : ℕ) (l : List (List Step)) → Sized steps l → length (lined l) ≡ length l * steps
unfolding lined
lined_length steps [] f = omega arith
lined_length steps (s ∷ l) f =
    length-append (bytes s) (lined l)
    ∙ omega (arith, first_sized f, lined_length steps l (λ t h. f t (Memᴰ.tail h)))

-- cut apart again
pub cut : (steps : ℕ) (l : List (List Step)) (rest : List ℕ) → Sized steps l → strips_in steps (length l) (lined l ++ rest) ≡ l
unfolding lined strips_in
cut steps [] rest f = refl
cut steps (s ∷ l) rest f =
    let e = append_assoc (bytes s) (lined l) rest in
    ap₂ (λ (x : List Step) (y : List (List Step)). x ∷ y)
    (ap steps_of (ap (take steps) e ∙ take_at (bytes s) (lined l ++ rest) steps (first_sized f)) ∙ steps_bytes s)
    (ap (strips_in steps (length l)) (ap (drop steps) e ∙ drop_at (bytes s) (lined l ++ rest) steps (first_sized f))
    ∙ cut steps l rest (λ t h. f t (Memᴰ.tail h)))

-- ---- what a run of best strips is

-- the lines hold the first 1,000 best strips, and the value is that of the first
pub record RunOf (a b : List ℤ) (strips : List ℕ) (value : ℤ) (n : ℕ) (more : Bool) : Type 0 where
  pub first : List Step
  pub is_first : FirstOf a b first
  pub valued : value ≡ value_of a b first
  pub list : List (List Step)
  pub others : List (List Step)
  pub begins : list ≡ first ∷ others
  pub counted : n ≡ length list
  pub beginning : Beginning a b 1000 list more
  pub rest : List ℕ
  pub front : strips ≡ lined list ++ rest

beginning_sized : {a b : List ℤ} {limit : ℕ} {l : List (List Step)} {more : Bool} → Beginning a b limit l more → Sized (count a + count b) l
beginning_sized (all x h) t m = strip_length (listed_best x m).is
beginning_sized (some s rest x h) t m = strip_length (listed_best x (Memᴰ.append_left (s ∷ rest) m)).is

-- some strip is best, so there is a first, and it stands in front
record Begun (a b : List ℤ) (l : List (List Step)) : Type 0 where
  pub first : List Step
  pub is_first : FirstOf a b first
  pub others : List (List Step)
  pub begins : l ≡ first ∷ others

begun : {a b : List ℤ} {limit : ℕ} {l : List (List Step)} {more : Bool} → 1 ≤ limit → Beginning a b limit l more → Begun a b l
begun h (all x k) = let o = onward_head x.onward in record { first = x.start; is_first = x.first; others = o.0; begins = o.1 }
begun {l = []} h (some s rest x k) = absurd (omega arith)
begun {l = t ∷ l} h (some s rest x k) =
    let o = onward_head x.onward in
    record { first = x.start; is_first = x.first; others = l; begins = ap (λ (z : List Step). z ∷ l) (let e : t ≡ x.start = cc in e) }

beginning_few : {a b : List ℤ} {limit : ℕ} {l : List (List Step)} {more : Bool} → Beginning a b limit l more → length l ≤ limit
beginning_few (all x h) = h
beginning_few (some s rest x h) = omega arith

module _ {a b : List ℤ} (p : Pair a b) where
  few_steps : count a + count b ≤ 500
  few_steps = omega (arith, p.lower.not_many, p.upper.not_many)

  enough : {limit : ℕ} {lines work : List ℕ} → limit ≤ 1000 → 500000 ≡ length lines → 63001 ≡ length work → EnoughLines a b limit lines work
  enough {limit} few h k = record {
    for_lines = omega (arith, mul-le-mul {n₁ = limit} {m₁ = count a + count b} {n₂ = 1000} {m₂ = 500} few few_steps);
    for_work = omega (
      arith,
      mul-le-mul {n₁ = count a + 1} {m₁ = count b + 1} {n₂ = 251} {m₂ = 251} (omega (arith, p.lower.not_many)) (omega (arith, p.upper.not_many)),
    );
  }

  pub never_refused : {limit : ℕ} {lines work lines' work' : List ℕ} {f : Refusal} → limit ≤ 1000 → 500000 ≡ length lines
      → 63001 ≡ length work → ListAnswer a b limit lines work lines' work' (Err f) → ⊥
  never_refused {limit} {lines} {work} few h k (Joining.ListAnswer.refused {r = r} x u) =
      stopped_not_passed (list_gates a b limit lines work) r x (list_passed p (enough few h k))

  pub run_of : {lines work lines' work' : List ℕ} {run : Run} → ListAnswer a b 1000 lines work lines' work' (Ok run)
      → RunOf a b lines' run.value run.count run.more
  run_of {lines = old} (listed q l begin f c s t) =
      let g = begun (omega arith) begin in
      record {
        first = g.first;
        is_first = g.is_first;
        valued = best_same t g.is_first.best;
        list = l;
        others = g.others;
        begins = g.begins;
        counted = refl;
        beginning = begin;
        rest = drop (length l * (count a + count b)) old;
        front = f;
      }

  module _ {strips : List ℕ} {value : ℤ} {n : ℕ} {more : Bool} (r : RunOf a b strips value n more) where
    -- they stand whole in the bytes
    pub run_inside : n * (count a + count b) ≤ length strips
    run_inside =
        omega (
          arith,
          ap (λ (k : ℕ). k * (count a + count b)) r.counted,
          ap length r.front,
          length-append (lined r.list) r.rest,
          lined_length (count a + count b) r.list (beginning_sized r.beginning),
        )

    pub run_cut : strips_in (count a + count b) n strips ≡ r.list
    run_cut =
        ap₂ (strips_in (count a + count b)) r.counted r.front
        ∙ cut (count a + count b) r.list r.rest (beginning_sized r.beginning)

    last_short : (t : Bool) → length (last_line t) ≤ 5
    unfolding last_line end_line more_line
    last_short true = omega arith
    last_short false = omega arith

    -- and their lines fit
    pub run_room : {out : List ℕ} (v six : ℤ) → SFits w64 v → SFits w64 six → longest ≤ length out
        → Room out 0 (lines_of v six (count a + count b) n strips more)
    unfolding lines_of
    run_room v six f g h =
        let many = mul-le-mul {n₁ = n} {m₁ = count a + count b + 1} {n₂ = 1000} {m₂ = 501}
        (omega (arith, r.counted, beginning_few r.beginning)) (omega (arith, few_steps)) in
        let s = strip_lines (strips_in (count a + count b) n strips) in
        record {
          fits = omega (
            arith,
            length-append (value_line v six) (s ++ last_line more),
            length-append s (last_line more),
            value_short v six f g,
            lines_length (count a + count b) n strips run_inside,
            last_short more,
          );
        }

    -- the first of them stands at the front
    pub run_front : take (count a + count b) strips ≡ bytes r.first
    unfolding lined
    run_front =
        let sized : length (bytes r.first) ≡ count a + count b = bytes_length r.first ∙ strip_length r.is_first.best.is in
        ap (take (count a + count b)) (r.front ∙ ap (λ (l : List (List Step)). lined l ++ r.rest) r.begins
        ∙ append_assoc (bytes r.first) (lined r.others) r.rest)
        ∙ take_at (bytes r.first) (lined r.others ++ r.rest) (count a + count b) sized

    pub run_strip : IsStrip (count a) (count b) (take (count a + count b) strips)
    run_strip = record { steps = r.first; written = run_front; strip = r.is_first.best.is }

    -- six times its volume
    pub run_six : {g h six : ℤ} → g ≡ h → six ≡ band_six g a b (steps_of (take (count a + count b) strips)) → six ≡ band_six h a b r.first
    run_six d e = e ∙ ap₂ (λ (h : ℤ) (s : List Step). band_six h a b s) d (ap steps_of run_front ∙ steps_bytes r.first)

    -- they stand there, as many as a strip has steps
    pub front_inside : count a + count b ≤ length strips
    front_inside = omega (arith, ap length run_front, bytes_length r.first, strip_length r.is_first.best.is, length-take (count a + count b) strips)

    -- so they are the lines that are to be written
    pub run_lines : {v six : ℤ} (h : ℤ) → v ≡ value → six ≡ band_six h a b r.first → BestLines h a b (lines_of v six (count a + count b) n strips more)
    unfolding lines_of
    run_lines h d e =
        subst (BestLines h a b)
        (sym (ap₂ (λ (x : List ℕ) (y : List (List Step)). x ++ (strip_lines y ++ last_line more)) (ap₂ value_line (d ∙ r.valued) e) run_cut))
        (lines r.first r.is_first r.list r.beginning)
