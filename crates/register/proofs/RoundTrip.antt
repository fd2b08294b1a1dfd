-- Demand 2: register files come back byte for byte, both ways, over the contracts of `write` and `read`.
--
-- What is written for an accepted stack with its strips is a sound file that holds that stack and those strips, so reading gives them
-- (`written_is_read`). What is read with success is what the file was made of (`read_is_written`). So a file is accepted exactly when it
-- is what `write` makes of some accepted stack with strips (`accepted_exactly`). Over the calls: `write_then_read` and `read_then_write`.
-- Assumes nothing.
use Rattle.std.specs.Prelude.{Result, Ok}
use Rattle.fault.specs.declared.Refusal.{Refusal}
use mathlib.Core.Path.{◌≡◌, refl, sym, ap, ◌∙◌, subst}
use mathlib.Core.Bool.{Bool, true, false}
use mathlib.Core.Logic.{◌↔◌}
use mathlib.Core.List.{List}
use Prim.Native.Nat.{ℕ, zero, suc, ◌+◌, ◌*◌, ◌-◌, ◌/◌, ◌≤◌, ◌<◌}
use native.Mathlib.Omega.{arith}
use lib.Dec.{ltb}
use lib.IntN.{ℤ, pos}
use lib.ListN.{length, get_or, take, drop}
use lib.Seq.{get_or-take, get_or-drop, take_at}
use borrow.Author.Tests.{ltb-true, ltb-false}
use Rattle.whole.specs.Between.{Within}
use Rattle.whole.proofs.Bounds.{between_wider}
use Rattle.stack.specs.declared.Layer.{Layer}
use Rattle.stack.specs.Entries.{entry, trace_of, stop, start}
use Rattle.stack.specs.Faults.{AcceptedStack}
use Rattle.stack.specs.Strips.{StripsRight}
use Rattle.stack.proofs.StackLaws.{accepted_first, accepted_end, accepted_inside, accepted_count, accepted_plane}
use Rattle.blocks.specs.Blocks.{blocks_for, contents_of}
use Rattle.blocks.specs.Faults.{Sound}
use Rattle.blocks.proofs.RoundTrip.{sealed_is_sound, seal_then_open, open_then_seal_less}
use Rattle.register.specs.declared.FileRead.{FileRead}
use Rattle.register.specs.Contents.{contents, contents_long, register_file}
use Rattle.register.specs.Stored.{InWord, Stored}
use Rattle.register.specs.Reading.{Lent, lent, EnoughFor, filled, found, in_file, Holds, HandedOver, ReadAnswer}
use Rattle.register.specs.Reading as read
use Rattle.register.specs.Accepted.{FileOf, IsFile, IsRead, WrittenFor}
use Rattle.register.specs.Writing.{file_long, WriteAnswer}
use Rattle.register.specs.Writing as write
use Rattle.register.proofs.WriteExact.{write_unique}
use Rattle.register.proofs.ReadExact.{read_unique}
use Rattle.register.proofs.ReadGates.{layers_held}
use Rattle.register.proofs.ChainLaws.{trace_long}
use Rattle.register.proofs.PutLaws.{contents_long_lem}
use Rattle.register.proofs.WriteLaws.{blocks_some, blocks_few}

-- ---- an accepted stack can be stored

in_word : {z : ℤ} → Within 100000 z → InWord z
in_word w = between_wider (omega arith) (omega arith) w

module _ {es : List Layer} {c : List ℤ} (a : AcceptedStack es c) where
  -- a coordinate below where layer k starts is one of the layers below, so it is in range
  coord_below : (k : ℕ) → k ≤ length es → (i : ℕ) → i < 2 * start es k → Within 100000 (get_or c i (pos 0))
  unfolding start trace_of
  coord_below zero h i j = absurd (omega arith)
  coord_below (suc k) h i j = go (coord_below k (omega arith) i) (ltb i (2 * start es k)) refl
    where
      here : (n m j : ℕ) → j < n → get_or (take n (drop m c)) j (pos 0) ≡ get_or c (m + j) (pos 0)
      here n m j h = get_or-take n (drop m c) j (pos 0) h ∙ get_or-drop m c j (pos 0)

      inside : (e : Layer) → e ≡ entry es k → 2 * start es k ≤ i → Within 100000 (get_or c i (pos 0))
      inside e f l =
          let first : e.first ≡ start es k = ap (λ (e : Layer). e.first) f ∙ accepted_first a k h in
          let stops : stop e ≡ stop (entry es k) = ap stop f in
          let at : 2 * e.first + (i - 2 * e.first) ≡ i = omega arith in
          let short : i - 2 * e.first < 2 * e.count = omega arith in
          let ranged : (j : ℕ) → j < length (trace_of c e) → Within 100000 (get_or (trace_of c e) j (pos 0)) =
          subst (λ (e : Layer). (j : ℕ) → j < length (trace_of c e) → Within 100000 (get_or (trace_of c e) j (pos 0))) (sym f) (a.traces k h).in_range in
          let long : length (trace_of c e) ≡ 2 * e.count = trace_long c e (omega (arith, accepted_inside a k h)) in
          subst (Within 100000)
          (here (2 * e.count) (2 * e.first) (i - 2 * e.first) short ∙ ap (λ (n : ℕ). get_or c n (pos 0)) at)
          (ranged (i - 2 * e.first) (omega arith))

      go : (i < 2 * start es k → Within 100000 (get_or c i (pos 0))) → (t : Bool) → ltb i (2 * start es k) ≡ t → Within 100000 (get_or c i (pos 0))
      go f true e = f (ltb-true i (2 * start es k) e)
      go f false e = inside (entry es k) refl (ltb-false i (2 * start es k) e)

  coord_in : (i : ℕ) → i < length c → Within 100000 (get_or c i (pos 0))
  unfolding start
  coord_in i h = go (length es) refl
    where
      go : (n : ℕ) → n ≡ length es → Within 100000 (get_or c i (pos 0))
      go zero e = absurd (omega (arith, a.layers.two))
      go (suc k) e = coord_below (suc k) (omega arith) i (omega (arith, accepted_end a k e, a.spanned.even))

  -- how many zeros are behind
  fill : (n : ℕ) → 508 * blocks_for n - n < 508
  unfolding blocks_for
  fill n = omega arith

  module _ {l : List ℕ} (r : StripsRight es l) where
    long : length (contents es c l) ≡ contents_long es c
    long = contents_long_lem l a.spanned (omega (arith, a.layers.two)) r.long

    abbrev pub blocks_in : ℕ
    blocks_in = blocks_for (length (contents es c l))

    some : 1 ≤ blocks_in
    some = subst (λ (k : ℕ). 1 ≤ blocks_for k) (sym long) (blocks_some a)

    few : blocks_in ≤ 98
    few = subst (λ (k : ℕ). blocks_for k ≤ 98) (sym long) (blocks_few a)

    -- the file that is written is sound
    pub file_sound : Sound (register_file es c l) blocks_in
    unfolding register_file
    file_sound = sealed_is_sound (contents es c l) some few

    -- and as long as is asked for
    pub file_long_lem : length (register_file es c l) ≡ file_long es c
    unfolding file_long
    file_long_lem = file_sound.blocks.whole ∙ ap (λ (k : ℕ). 512 * blocks_for k) long

    stored : Stored (contents_of blocks_in (register_file es c l)) es c l
    unfolding register_file
    stored = record {
      spanned = a.spanned;
      long = r.long;
      counts = λ i h. omega (arith, (accepted_count a i h).many);
      planes = λ i h. in_word (accepted_plane a i h);
      coords = λ i h. in_word (coord_in i h);
      filler = 508 * blocks_in - length (contents es c l);
      short = fill (length (contents es c l));
      here = seal_then_open (contents es c l);
    }

    -- and holds the stack with its strips
    pub file_holds : Holds (register_file es c l) es c l
    file_holds =
        let f : List ℕ = register_file es c l in
        let is : blocks_in ≡ length f / 512 = omega (arith, file_sound.blocks.whole) in
        let held : Stored (in_file f) es c l = subst (λ (n : ℕ). Stored (contents_of n f) es c l) is stored in
        record { sound = subst (Sound f) is file_sound; layers = layers_held held a.layers; stored = held }

    -- round trip one: what is written and read comes back, every number
    pub written_is_read : {x : Lent} → EnoughFor es c l x → ReadAnswer (register_file es c l) x (filled es c l x) (found es c l)
    written_is_read e = read.ReadAnswer.held file_holds (read.HandedOver.whole a e r)

    -- and nothing else can come back
    pub nothing_else_is_read : {x y : Lent} {s : Result FileRead Refusal} → EnoughFor es c l x → ReadAnswer (register_file es c l) x y s
        → (y ≡ filled es c l x) × (s ≡ found es c l)
    nothing_else_is_read e p = read_unique p (written_is_read e)

-- ---- what was read

handed_written : {f : List ℕ} {es : List Layer} {c : List ℤ} {l : List ℕ} {x y : Lent} {r : FileRead} → Holds f es c l
    → HandedOver es c l x y (Ok r) → WrittenFor f x y (Ok r)
unfolding register_file
handed_written {es = es} {c} {l} h (read.HandedOver.whole a i s) = record {
  es = es;
  c = c;
  l = l;
  file = record {
    stack = a;
    strips = s;
    same = open_then_seal_less h.sound (contents es c l) h.stored.filler h.stored.short h.stored.here;
  };
  room = i;
  fronts = refl;
  given = refl;
}

-- round trip two: a file that is read, and written again from what was read, comes back byte for byte
pub read_is_written : {f : List ℕ} {x y : Lent} {r : FileRead} → ReadAnswer f x y (Ok r) → WrittenFor f x y (Ok r)
read_is_written (read.ReadAnswer.held h o) = handed_written h o

-- ---- over the calls

-- what a call of `write` leaves at the front of its slice, handed to `read`, comes back, every number
pub write_then_read : {es : List Layer} {c : List ℤ} {l out out' : List ℕ} {n : ℕ} {x y : Lent} {s : Result FileRead Refusal}
    → WriteAnswer es c l out out' (Ok n) → EnoughFor es c l x → ReadAnswer (take n out') x y s
    → (y ≡ filled es c l x) × (s ≡ found es c l)
write_then_read {es} {c} {l} {out} {x = x} {y} {s} (write.written a h r) e p =
    let front = take_at (register_file es c l) (drop (file_long es c) out) (file_long es c) (file_long_lem a r) in
    nothing_else_is_read a r e (subst (λ (f : List ℕ). ReadAnswer f x y s) front p)

-- what a call of `write` leaves for the stack that a file was made of is that file
pub written_again : {f : List ℕ} {es : List Layer} {c : List ℤ} {l out out' : List ℕ} {w : Result ℕ Refusal} → FileOf f es c l → length f ≤ length out
    → WriteAnswer es c l out out' w → (w ≡ Ok (length f)) × (take (length f) out' ≡ f)
written_again {f} {es} {c} {l} {out} o h q =
    let long : length f ≡ file_long es c = ap length (sym o.same) ∙ file_long_lem o.stack o.strips in
    let again = write_unique q (write.written o.stack (omega arith) o.strips) in (
      again.1 ∙ ap Ok (sym long),
      ap (take (length f)) again.0
          ∙ take_at (register_file es c l) (drop (file_long es c) out) (length f) (ap length o.same)
          ∙ o.same,
    )

-- what a call of `read` gives, handed to `write`, is the file byte for byte
pub read_then_write : {f : List ℕ} {x y : Lent} {r : FileRead} {out out' : List ℕ} {w : Result ℕ Refusal} → ReadAnswer f x y (Ok r)
    → length f ≤ length out
    → WriteAnswer (take r.layers y.entries) (take (2 * r.points) y.coords) (take r.steps y.strips) out out' w
    → (w ≡ Ok (length f)) × (take (length f) out' ≡ f)
read_then_write {f} {x} {y} {r} {out} {out'} {w} p h q = go (read_is_written p)
  where
    is_found : {a b : FileRead} → ◌≡◌ {A = Result FileRead Refusal} (Ok a) (Ok b) → a ≡ b
    is_found e = cc

    go : WrittenFor f x y (Ok r) → (w ≡ Ok (length f)) × (take (length f) out' ≡ f)
    go t =
        let given = is_found t.given in
        let layers : r.layers ≡ length t.es = ap (λ (r : FileRead). r.layers) given in
        let points : r.points ≡ length t.c / 2 = ap (λ (r : FileRead). r.points) given in
        let steps : r.steps ≡ length t.l = ap (λ (r : FileRead). r.steps) given in
        let even : 2 * r.points ≡ length t.c = omega (arith, t.file.stack.spanned.even) in
        let entries : take r.layers y.entries ≡ t.es =
        ap (λ (y : Lent). take r.layers y.entries) t.fronts ∙ take_at t.es (drop (length t.es) x.entries) r.layers (sym layers) in
        let coords : take (2 * r.points) y.coords ≡ t.c =
        ap (λ (y : Lent). take (2 * r.points) y.coords) t.fronts ∙ take_at t.c (drop (length t.c) x.coords) (2 * r.points) (sym even) in
        let strips : take r.steps y.strips ≡ t.l =
        ap (λ (y : Lent). take r.steps y.strips) t.fronts ∙ take_at t.l (drop (length t.l) x.strips) r.steps (sym steps) in
        written_again t.file h (rw (sym entries, sym coords, sym strips) q)

-- ---- which files are accepted

pub accepted_exactly : (f : List ℕ) → IsRead f ↔ IsFile f
accepted_exactly f = (to, of)
  where
    to : IsRead f → IsFile f
    to r =
        let w = read_is_written r.answer in
        record { es = w.es; c = w.c; l = w.l; file = w.file }

    of : IsFile f → IsRead f
    of w = record {
      before = just;
      after = filled w.es w.c w.l just;
      given = record { layers = length w.es; points = length w.c / 2; steps = length w.l };
      answer = subst (λ (g : List ℕ). ReadAnswer g just (filled w.es w.c w.l just) (found w.es w.c w.l)) w.file.same
          (written_is_read w.file.stack w.file.strips enough);
    }
      where
        just : Lent
        just = lent w.es w.c w.l

        enough : EnoughFor w.es w.c w.l just
        enough = record { for_entries = omega arith; for_coords = omega arith; for_strips = omega arith }
