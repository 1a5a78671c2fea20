-- Which values are uris, by how many characters there are if each is of 32 to 126.
use Prim.Native.Nat.{ℕ}
use mathlib.Core.Path.{◌≡◌, refl, sym}
use mathlib.Core.Bool.{Bool, true, false, and-true, and-false}
use mathlib.Core.List.{List}
use lib.ListN.{length}
use Rattle.octets.specs.Bytes.{every, between}
use Rattle.values.specs.WorkingSteps.{is_printable, printable_size}
use Rattle.reads.specs.WorkingSteps.{uri_ok}

pub uri-between : (v : List ℕ) (n : ℕ) → n ≡ printable_size v → between 1 1024 n ≡ uri_ok v
unfolding printable_size uri_ok every between
uri-between v n e = rw e (go (every is_printable v) refl)
  where
    go : (b : Bool) → every is_printable v ≡ b → between 1 1024 (printable_size v) ≡ uri_ok v
    go true p = rw p (sym (and-true (between 1 1024 (length v))))
    go false p = rw p (sym (and-false (between 1 1024 (length v))))
