-- Two outcomes that a contract allows for one input coincide: what is shown of an answer is a function of it, and the answers coincide by
-- the theorems of the crates below. Assumes nothing.
use mathlib.Core.Path.{◌≡◌, sym, ap, ◌∙◌}
use mathlib.Core.List.{List}
use Prim.Native.Nat.{ℕ}
use lib.IntN.{ℤ}
use Rattle.trace.specs.Faults.{Given}
use Rattle.trace.proofs.Exact.{judgement_unique}
use Rattle.strip.specs.Judging.{StripJudged}
use Rattle.strip.proofs.Exact.{strip_judged_unique}
use Rattle.joining.specs.Answers.{BestAnswer, NextAnswer}
use Rattle.joining.specs.Listing.{ListAnswer}
use Rattle.joining.specs.Outcomes.{Same}
use Rattle.joining.proofs.Exact.{best_unique, followed_unique, list_unique}
use Rattle.stack.specs.declared.Layer.{Layer}
use Rattle.stack.specs.Faults.{StackJudged}
use Rattle.stack.proofs.Exact.{stack_judged_unique}
use Rattle.bands.specs.Bands.{BandsAnswer}
use Rattle.bands.proofs.Exact.{bands_unique}
use Rattle.mesh.specs.Meshing.{Measured, Triangled}
use Rattle.mesh.proofs.Answers.{measured_once, triangled_once}
use Rattle.register.specs.Writing.{WriteAnswer}
use Rattle.register.specs.Reading.{Lent}
use Rattle.register.proofs.WriteExact.{write_unique}
use Rattle.register.proofs.ReadExact.{read_unique}
use Rattle.listing.specs.Listing.{ListingAnswer}
use Rattle.listing.proofs.Unique.{answer_unique}
use Rattle.exports.specs.declared.Answer.{Answer}
use Rattle.exports.specs.declared.TraceAnswer.{TraceAnswer}
use Rattle.exports.specs.declared.RunAnswer.{RunAnswer}
use Rattle.exports.specs.declared.stacks.StackAnswer.{StackAnswer}
use Rattle.exports.specs.declared.stacks.StepsAnswer.{StepsAnswer}
use Rattle.exports.specs.declared.stacks.MeshAnswer.{MeshAnswer}
use Rattle.exports.specs.declared.files.BytesAnswer.{BytesAnswer}
use Rattle.exports.specs.declared.files.FileAnswer.{FileAnswer}
use Rattle.exports.specs.Shown.{Shows, valued, followed, listed, judged_as}
use Rattle.exports.specs.Stacks.{stack_as, banded_as, meshed_as}
use Rattle.exports.specs.Files.{written_as, read_as, FileShown}

-- what is shown of one answer
same_shown : {X Y : Type 0} (show : X → Y) {x x' : X} {r r' : Y} {s s' w w' : List ℕ} → Same x x' s s' w w' → r ≡ show x → r' ≡ show x'
    → Same r r' s s' w w'
same_shown show same e f = record { answer = e ∙ ap show same.answer ∙ sym f; strips = same.strips; works = same.works }

pub register_judge_unique : {c : List ℤ} {r r' : TraceAnswer} → Shows (Given c) judged_as r → Shows (Given c) judged_as r' → r ≡ r'
register_judge_unique (x, (p, e)) (y, (q, f)) = e ∙ ap judged_as (judgement_unique p q) ∙ sym f

pub register_judge_strip_unique : {a b : List ℤ} {l : List ℕ} {r r' : Answer} → Shows (StripJudged a b l) valued r
    → Shows (StripJudged a b l) valued r' → r ≡ r'
register_judge_strip_unique (x, (p, e)) (y, (q, f)) = e ∙ ap valued (strip_judged_unique p q) ∙ sym f

module _ {a b : List ℤ} {l work s s' w w' : List ℕ} where
  pub register_best_unique : {r r' : Answer} → Shows (BestAnswer a b l work s w) valued r → Shows (BestAnswer a b l work s' w') valued r'
      → Same r r' s s' w w'
  register_best_unique (x, (p, e)) (y, (q, f)) = same_shown valued (best_unique p q) e f

  pub register_next_unique : {r r' : Answer} → Shows (NextAnswer a b l work s w) followed r → Shows (NextAnswer a b l work s' w') followed r'
      → Same r r' s s' w w'
  register_next_unique (x, (p, e)) (y, (q, f)) = same_shown followed (followed_unique p q) e f

  pub register_list_best_unique : {limit : ℕ} {r r' : RunAnswer} → Shows (ListAnswer a b limit l work s w) listed r
      → Shows (ListAnswer a b limit l work s' w') listed r' → Same r r' s s' w w'
  register_list_best_unique (x, (p, e)) (y, (q, f)) = same_shown listed (list_unique p q) e f

-- ---- a stack and its strips

module _ {es : List Layer} {c : List ℤ} where
  pub register_judge_stack_unique : {r r' : StackAnswer} → Shows (StackJudged es c) stack_as r → Shows (StackJudged es c) stack_as r' → r ≡ r'
  register_judge_stack_unique (x, (p, e)) (y, (q, f)) = e ∙ ap stack_as (stack_judged_unique p q) ∙ sym f

module _ {es : List Layer} {c : List ℤ} {l : List ℕ} where
  pub register_volume_unique : {r r' : Answer} → Shows (Measured es c l) valued r → Shows (Measured es c l) valued r' → r ≡ r'
  register_volume_unique (x, (p, e)) (y, (q, f)) = e ∙ ap valued (measured_once p q) ∙ sym f

  pub register_triangles_unique : {out new old : List ℕ} {r r' : MeshAnswer} → Shows (Triangled es c l out new) meshed_as r
      → Shows (Triangled es c l out old) meshed_as r' → (new ≡ old) × (r ≡ r')
  register_triangles_unique (x, (p, e)) (y, (q, f)) = let same = triangled_once p q in (same.0, e ∙ ap meshed_as same.1 ∙ sym f)

  pub register_best_strips_unique : {work s s' w w' : List ℕ} {r r' : StepsAnswer} → Shows (BandsAnswer es c l work s w) banded_as r
      → Shows (BandsAnswer es c l work s' w') banded_as r' → Same r r' s s' w w'
  register_best_strips_unique (x, (p, e)) (y, (q, f)) = same_shown banded_as (bands_unique p q) e f

  -- ---- the register file and the listing

  pub register_write_unique : {out new old : List ℕ} {r r' : BytesAnswer} → Shows (WriteAnswer es c l out new) written_as r
      → Shows (WriteAnswer es c l out old) written_as r' → (new ≡ old) × (r ≡ r')
  register_write_unique (x, (p, e)) (y, (q, f)) = let same = write_unique p q in (same.0, e ∙ ap written_as same.1 ∙ sym f)

-- the answer, and the entries, the coordinates and the strips that are lent
module _ {f : List ℕ} {es : List Layer} {c : List ℤ} {l : List ℕ} where
  pub register_read_unique : {d d' : List Layer} {b b' : List ℤ} {m m' : List ℕ} {r r' : FileAnswer} → FileShown f es c l d b m r
      → FileShown f es c l d' b' m' r' → (((r ≡ r') × (d ≡ d')) × (b ≡ b')) × (m ≡ m')
  register_read_unique (x, (p, e)) (y, (q, g)) =
      let same = read_unique p q in
      (((e ∙ ap read_as same.1 ∙ sym g, ap (λ (x : Lent). x.entries) same.0), ap (λ (x : Lent). x.coords) same.0), ap (λ (x : Lent). x.strips) same.0)

pub register_listing_unique : {t out new old : List ℕ} {r r' : BytesAnswer} → Shows (ListingAnswer t out new) written_as r
    → Shows (ListingAnswer t out old) written_as r' → (new ≡ old) × (r ≡ r')
register_listing_unique (x, (p, e)) (y, (q, f)) = let same = answer_unique p q in (same.1, e ∙ ap written_as same.0 ∙ sym f)
