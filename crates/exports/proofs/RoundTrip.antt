-- Demand 2 over the entry points: what `register_write` leaves, handed to `register_read`, comes back, entries, coordinates and strips; and what
-- `register_read` gives, handed to `register_write`, is the file byte for byte. By the theorems of `register` over its two contracts, since
-- what is shown of an answer says what the answer is. Assumes nothing.
use mathlib.Core.Path.{◌≡◌, sym, ap, ◌∙◌, subst}
use mathlib.Core.List.{List}
use Prim.Native.Nat.{ℕ, ◌*◌, ◌≤◌}
use lib.IntN.{ℤ}
use lib.ListN.{length, take}
use Rattle.std.specs.Prelude.{Result, Ok, Err}
use Rattle.fault.specs.declared.Refusal.{Refusal}
use Rattle.fault.specs.Status.{success}
use Rattle.fault.proofs.Numbers.{number_some}
use Rattle.stack.specs.declared.Layer.{Layer}
use Rattle.register.specs.declared.FileRead.{FileRead}
use Rattle.register.specs.Writing.{WriteAnswer}
use Rattle.register.specs.Reading.{Lent, lent, EnoughFor, ReadAnswer}
use Rattle.register.proofs.RoundTrip as file
use Rattle.exports.specs.declared.files.BytesAnswer.{BytesAnswer}
use Rattle.exports.specs.declared.files.FileAnswer.{FileAnswer}
use Rattle.exports.specs.Shown.{Shows}
use Rattle.exports.specs.Files.{written_as, read_as, FileShown, ComesBack}

-- ---- written, then read

abbrev bytes_of : ℕ → Result ℕ Refusal
bytes_of n = Ok n

-- with success: so many bytes
bytes_written : (x : Result ℕ Refusal) {w : BytesAnswer} → w ≡ written_as x → w.status.number ≡ 0 → x ≡ bytes_of w.bytes
bytes_written (Ok n) e z = ap (λ (w : BytesAnswer). bytes_of w.bytes) (sym e)
bytes_written (Err r) e z = absurd (number_some r.fault (ap (λ (w : BytesAnswer). w.status.number) (sym e) ∙ z))

pub write_then_read : {es es₀ es' : List Layer} {c c₀ c' : List ℤ} {l l₀ l' out out' : List ℕ} {w : BytesAnswer} {r : FileAnswer}
    → Shows (WriteAnswer es c l out out') written_as w → w.status.number ≡ 0 → EnoughFor es c l (lent es₀ c₀ l₀)
    → FileShown (take w.bytes out') es₀ c₀ l₀ es' c' l' r → ComesBack es c l es₀ c₀ l₀ es' c' l' r
write_then_read {es} {c = c} {l = l} {out = out} {out'} {w} (x, (p, e)) z enough (y, (q, f)) =
    let whole : WriteAnswer es c l out out' (bytes_of w.bytes) = subst (WriteAnswer es c l out out') (bytes_written x e z) p in
    let back = file.write_then_read whole enough q in
    record {
      entries = ap (λ (x : Lent). x.entries) back.0;
      coords = ap (λ (x : Lent). x.coords) back.0;
      strips = ap (λ (x : Lent). x.strips) back.0;
      shown = f ∙ ap read_as back.1;
    }

-- ---- read, then written

abbrev read_of : FileAnswer → Result FileRead Refusal
read_of r = Ok (record { layers = r.layers; points = r.points; steps = r.steps })

-- with success: whole, with the numbers that are shown
whole_read : (x : Result FileRead Refusal) {r : FileAnswer} → r ≡ read_as x → r.status.number ≡ 0 → x ≡ read_of r
whole_read (Ok v) e z = ap read_of (sym e)
whole_read (Err q) e z = absurd (number_some q.fault (ap (λ (r : FileAnswer). r.status.number) (sym e) ∙ z))

pub read_then_write : {f : List ℕ} {es₀ es' : List Layer} {c₀ c' : List ℤ} {l₀ l' out out' : List ℕ} {r : FileAnswer} {w : BytesAnswer}
    → FileShown f es₀ c₀ l₀ es' c' l' r → r.status.number ≡ 0 → length f ≤ length out
    → Shows (WriteAnswer (take r.layers es') (take (2 * r.points) c') (take r.steps l') out out') written_as w
    → (w ≡ record { status = success; bytes = length f }) × (take (length f) out' ≡ f)
read_then_write {f} {es₀} {es'} {c₀} {c'} {l₀} {l'} {r = r} (y, (q, g)) z h (x, (p, e)) =
    let whole : ReadAnswer f (lent es₀ c₀ l₀) (lent es' c' l') (read_of r) =
    subst (ReadAnswer f (lent es₀ c₀ l₀) (lent es' c' l')) (whole_read y g z) q in
    let again = file.read_then_write whole h p in
    (e ∙ ap written_as again.0, again.1)
