-- "Nothing unread matters": of two messages that differ only in what is unread "every call gives the same numbers and the same bytes for both". A statement
-- over calls c; those that are not named here take no message.
use Rattle.std.specs.Prelude.{ℕ, ◌≡◌, List}
use Rattle.demands.specs.Calls.{Calls}
use Rattle.unread.specs.Kept.{OnlyUnreadDiffers}

pub record NothingUnreadMatters (c : Calls) : Type 0 where
  -- their header for any station, into an output of any length: number, field, header and must-carry, refusals too
  pub heading-same : (s r : List ℕ) → OnlyUnreadDiffers s r → (station : List ℕ) (h : ℕ) → c.heading s station h ≡ c.heading r station h
  -- their text for any station, into outputs of any lengths: number, field, text, audio and uri, refusals too
  pub texting-same : (s r : List ℕ) → OnlyUnreadDiffers s r → (station : List ℕ) (t u : ℕ) → c.texting s station t u ≡ c.texting r station t u
  -- in the Canadian mode, into outputs of any lengths: number, field, text, audio and uri, refusals too
  pub canadian-same : (s r : List ℕ) → OnlyUnreadDiffers s r → (t u : ℕ) → c.canadian s t u ≡ c.canadian r t u
  -- offering them to any board: number, field, how many records were added, and each byte of the board, refusals too
  pub offering-same : (s r : List ℕ) → OnlyUnreadDiffers s r → (b : List ℕ) → c.offering b s ≡ c.offering b r
