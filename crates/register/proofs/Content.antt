-- CONTENT is given exactly when one of 01's three clauses holds: the contents of a sound file of 2 to 20 layers run past the blocks, or need
-- fewer, or the filler isn't zero. Where none does, what is read from them is held by them. Assumes nothing.
use mathlib.Core.Path.{◌≡◌, refl}
use mathlib.Core.Bool.{Bool, true, false}
use mathlib.Core.Logic.{◌↔◌}
use mathlib.Core.List.{List}
use Prim.Native.Nat.{ℕ, ◌+◌, ◌<◌}
use native.Mathlib.Omega.{arith}
use lib.Dec.{ltb}
use lib.ListN.{length}
use borrow.Author.Tests.{ltb-true, ltb-false}
use Rattle.register.specs.Stored.{layers_in, LayersIn, ContentFault}
use Rattle.register.specs.Decoding.{layers_of, coords_of, strips_of}
use Rattle.register.specs.Answering.{contents_end, ContentWrong, past, fewer, filler}
use Rattle.register.proofs.DecodeLaws.{Bytes}
use Rattle.register.proofs.StoredLaws.{ended_stored, not_held}

pub content_exactly : {k : List ℕ} → Bytes k → LayersIn k → ContentFault k ↔ ContentWrong k
content_exactly {k} b l = (to, of)
  where
    some : 0 < layers_in k
    some = omega (arith, l.two)

    to : ContentFault k → ContentWrong k
    to f = go (ltb (length k) (contents_end k)) refl (ltb (length k) (contents_end k + 508)) refl
      where
        go : (p : Bool) → ltb (length k) (contents_end k) ≡ p → (q : Bool) → ltb (length k) (contents_end k + 508) ≡ q → ContentWrong k
        go true p q _ = past (ltb-true (length k) (contents_end k) p)
        go false p false q = fewer (ltb-false (length k) (contents_end k + 508) q)
        go false p true q =
            filler (λ z. f.none (layers_of k) (coords_of k) (strips_of k) (ended_stored b (record {
              within = ltb-false (length k) (contents_end k) p;
              needed = ltb-true (length k) (contents_end k + 508) q;
              zeros = z;
            })))

    of : ContentWrong k → ContentFault k
    of (past h) = not_held some (λ e. omega (arith, e.within))
    of (fewer h) = not_held some (λ e. omega (arith, e.needed))
    of (filler n) = not_held some (λ e. n e.zeros)
