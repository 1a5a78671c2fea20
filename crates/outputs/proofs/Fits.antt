-- What is put fits its output.
--     room_of_lem  how long outputs are that are long enough
--     uri-fits     the uri of an audio choice
use Prim.Native.Nat.{ℕ, ◌≤◌}
use mathlib.Core.Path.{◌≡◌}
use mathlib.Core.Bool.{true, false}
use mathlib.Core.List.{List, [], ◌∷◌}
use native.Mathlib.Omega.{arith}
use borrow.Author.Tests.{leb-true}
use lib.ListN.{length}
use lib.Dec.{eqb, leb}
use Rattle.octets.specs.Bytes.{every, between}
use Rattle.octets.proofs.Tests.{each_of, every-none, between-high, either_way}
use Rattle.values.specs.Value.{value_at}
use Rattle.values.specs.WorkingSteps.{is_printable}
use Rattle.reads.specs.WorkingSteps.{uri_ok}
use Rattle.reads.specs.declared.Audio.{Audio}
use Rattle.outputs.specs.WorkingOutputs.{roomy_text, uri_in, UriFits}

pub room_of_lem : (text uri : ℕ) → roomy_text text uri ≡ true → (7200 ≤ text) × (1024 ≤ uri)
unfolding roomy_text
room_of_lem text uri h = let t = each_of (leb 7200 text ∷ leb 1024 uri ∷ []) h in (leb-true 7200 text t.0, leb-true 1024 uri t.1.0)

ok-fits : (v : List ℕ) → uri_ok v ≡ true → UriFits v
unfolding uri_ok
ok-fits v h =
    let t = each_of (between 1 1024 (length v) ∷ every is_printable v ∷ []) h in
    record { short = between-high 1 1024 (length v) t.0; printable = t.1.0 }

pub uri-fits : (s : List ℕ) (a : Audio) → (eqb a.number 0 ≡ false → uri_ok (value_at s a.uri) ≡ true) → UriFits (uri_in s a)
unfolding uri_in
uri-fits s a h =
    either_way UriFits (eqb a.number 0) _ _
    (λ e. record { short = omega arith; printable = every-none is_printable })
    (λ e. ok-fits (value_at s a.uri) (h e))
