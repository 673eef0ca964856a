-- `words::copy_into` meets its contract: after i turns the first i words are there.
use native.Mathlib.Omega.{arith}
use mathlib.Core.Path.{◌≡◌, refl}
use mathlib.Core.List.{List}
use Prim.Native.Nat.{ℕ, ◌+◌, ◌<◌}
use Rattle.words.specs.Part.{put}
use Rattle.words.proofs.PartLaws.{put-none, put-grow}
use native.Mathlib.Numerals.{add-one}
use lib.Seq.{take-length, take-suc, length-take-le}
use lib.ListN.{length, get_or, take, set}
use Rattle.words.proofs.copy_into.Goals as goal

turn : (d d₀ s : List ℕ) (at i : ℕ) → at + i < length d₀ → i < length s → d ≡ put d₀ at i (take i s) → set d (at + i) (get_or s i 0) ≡ put d₀ at (i + 1) (take (i + 1) s)
turn d d₀ s at i h h' e = rw (e, put-grow d₀ at i (take i s) (get_or s i 0) (length-take-le i s (omega arith)) h, add-one, take-suc s i 0) refl

done : (d d₀ s : List ℕ) (at i : ℕ) → i ≡ length s → d ≡ put d₀ at i (take i s) → d ≡ put d₀ at (length s) s
done d d₀ s at i h e = rw (e, h, take-length) refl

pub loop-i-init : goal.loop-i-init
loop-i-init c = put-none _ c.args.at

pub loop-i-preserved : goal.loop-i-preserved
loop-i-preserved c = turn _ _ _ _ _ (omega arith) (omega arith) c.loop-i.invariant

pub returns : goal.returns
returns c = done _ c.args.dst.now c.args.src.now c.args.at c.loop-i.i (omega arith) c.loop-i.invariant
