-- The calls that the demands speak of, as a record: a demand is a statement over any such record, which a stand-in meets or not.
use Rattle.std.specs.Prelude.{ℕ, List}
use Rattle.parts.specs.declared.Parts.{Parts}
use Rattle.header.specs.declared.Read.{Read}
use Rattle.header.specs.declared.Written.{Written}
use Rattle.header.specs.Header.{read_of, write_of, write_bytes}
use Rattle.outputs.specs.Outputs.{TextOutcome}
use Rattle.canadian.specs.WorkingCanadian.{canadian_of}
use Rattle.convert.specs.Convert.{HeaderOutcome}
use Rattle.convert.specs.WorkingConvert.{header_call, text_call}
use Rattle.board.specs.Calls.{Handing, Listing}
use Rattle.board.specs.WorkingCalls.{hand_of, list_of}
use Rattle.offers.specs.Offer.{MessageOffering}
use Rattle.offers.specs.WorkingOffer.{message_offer}

-- what writing a header answers, and the output after it
pub record Writing : Type 0 where
  pub answer : Written
  pub bytes : List ℕ

pub record Calls : Type 0 where
  -- header and must-carry of the message s for a station, into an output of this length
  pub heading : (s station : List ℕ) (header : ℕ) → HeaderOutcome
  -- text and audio of the message s for a station, into outputs of these lengths
  pub texting : (s station : List ℕ) (text uri : ℕ) → TextOutcome
  -- the Canadian mode of the message s, into outputs of these lengths
  pub canadian : (s : List ℕ) (text uri : ℕ) → TextOutcome
  -- offering the message s to the board b
  pub offering : (b s : List ℕ) → MessageOffering
  -- a hand-out of the board b
  pub handing : (b : List ℕ) → Handing
  -- the list of the board b into so many rows
  pub listing : (b : List ℕ) (rows : ℕ) → Listing
  -- reading the header s
  pub reading : (s : List ℕ) → Read
  -- writing a header of the parts p into the output d
  pub writing : (d : List ℕ) (p : Parts) → Writing

-- the calls of the library, each as its function's promise gives it
abbrev pub library : Calls
library = record {
  heading = header_call;
  texting = text_call;
  canadian = canadian_of;
  offering = message_offer;
  handing = hand_of;
  listing = list_of;
  reading = read_of;
  writing = λ d p. record { answer = write_of d p; bytes = write_bytes d p };
}
