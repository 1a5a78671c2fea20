-- What each of the two calls asks by itself: its own outputs, before any other number, and the station. Of a quiet Cancel neither gives anything.
use Prim.Native.Nat.{ℕ}
use mathlib.Core.Path.{◌≡◌, refl}
use mathlib.Core.List.{List, [], ◌∷◌}
use Rattle.octets.specs.Text.{bytes}
use Rattle.outputs.specs.Outputs.{alone}
use Rattle.outputs.specs.WorkingOutputs.{text_refused}
use Rattle.convert.specs.Convert.{no_header}
use Rattle.convert.specs.WorkingConvert.{header_call, text_call}
use Rattle.worked.specs.Table.{parameter_element, in_place, no, cancel, changed, pieces_written}
use Rattle.worked.proofs.Opens.{converting}

-- ---- 2 asks in each only what that call writes: of any message and any station, the empty ones too

module _ (message station : List ℕ) where
  pub short-header : header_call message station 251 ≡ alone no_header 2 0
  unfolding converting
  short-header = refl

  pub short-text : text_call message station 7199 1024 ≡ text_refused 2 0
  unfolding converting
  short-text = refl

  pub short-uri : text_call message station 7200 1023 ≡ text_refused 2 0
  unfolding converting
  short-uri = refl

  pub nothing_lent : (header_call message station 0 ≡ alone no_header 2 0) × (text_call message station 0 0 ≡ text_refused 2 0)
  unfolding converting
  nothing_lent = (refl, refl)

-- ---- both take the station: one with a dash is none, whatever the message

pub unnamed : (message : List ℕ) → (header_call message (bytes "BENCH-01") 252 ≡ alone no_header 3 0) × (text_call message (bytes "BENCH-01") 7200 1024 ≡ text_refused 3 0)
unfolding converting
unnamed message = (refl, refl)

-- ---- a quiet Cancel: 0, no header and no must-carry though its parameter says so, no text and no audio

abbrev quiet_carried : List ℕ
quiet_carried = cancel (no "expires" ∷ in_place "parameter" (parameter_element "EAS-Must-Carry" "True") ∷ [])

pub quiet-header : header_call quiet_carried (bytes "BENCH/01") 252 ≡ alone no_header 0 0
unfolding converting changed pieces_written
quiet-header = refl

pub quiet-text : text_call quiet_carried (bytes "BENCH/01") 7200 1024 ≡ text_refused 0 0
unfolding converting changed pieces_written
quiet-text = refl
