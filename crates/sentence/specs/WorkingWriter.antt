-- What a writer into a lent output leaves.
use Rattle.std.specs.Prelude.{ℕ, ◌≡◌, ◌+◌, List, length}
use Rattle.std.proofs.lemmas.List.Edits.{sets}
use Rattle.sentence.specs.declared.Writer.{Writer}

-- the writer v put ws and is now w: the same bytes are lent, as many as before, ws stands where v stood, and w stands behind it
pub record Wrote (v w : Writer) (ws : List ℕ) : Type 0 where
  pub same : w.out.ghost_name ≡ v.out.ghost_name
  pub is : w.out.now ≡ sets v.out.now v.at ws
  pub ends : w.at ≡ v.at + length ws
  pub long : length w.out.now ≡ length v.out.now
