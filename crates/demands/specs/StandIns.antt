-- Stand-ins for the library's calls. Document 01, "Holding a promise to its result", has five rejected: a converter that always refuses, or always gives one
-- header; an offer that writes nothing, or returns an invented added count; a hand-out that gives the first header and ever after says nothing is due. Of the calls
-- of a conversion each that always refuses is rejected by itself, and a text call that does not judge the station; a Canadian mode that always refuses is rejected
-- too, and a hand-out that forgets the year of a header. Each is the library but for one call. The last answers as the library does and is written otherwise. Before
-- them, the messages and boards on which they are tried.
use Rattle.std.specs.Prelude.{ℕ, ◌≡◌, ◌&&◌, List, [], ◌∷◌, ◌++◌, eqb, length, take, get_or, replicate}
use Prim.Native.String.{String}
use Rattle.octets.specs.Bytes.{pick, same}
use Rattle.octets.specs.Text.{bytes}
use Rattle.parts.specs.declared.Parts.{Parts}
use Rattle.told.specs.Values.{is_none}
use Rattle.outputs.specs.Outputs.{alone, TextOutcome}
use Rattle.outputs.specs.WorkingOutputs.{text_refused}
use Rattle.convert.specs.Convert.{HeaderGiven, no_header, HeaderOutcome}
use Rattle.records.specs.Record.{kind, header, pad, key_of, notice}
use Rattle.board.specs.Rules.{board_of}
use Rattle.board.specs.WorkingRules.{encode}
use Rattle.board.specs.Calls.{Handing}
use Rattle.board.specs.WorkingCalls.{hand_refused}
use Rattle.offers.specs.Offer.{MessageOffering}
use Rattle.demands.specs.Calls.{Calls, library}
use Rattle.demands.specs.Board.{some}

-- ---- messages and boards

-- the message under "Figures to hold", sent on this day, for this event
abbrev pub sample_on : String → String → List ℕ
sample_on day event =
    bytes "<alert xmlns=\"urn:oasis:names:tc:emergency:cap:1.2\"><identifier>B1</identifier><sender>b@c</sender><sent>"
    ++ (bytes day
    ++ (bytes "T14:00:30-04:00</sent>"
    ++ (bytes "<status>Actual</status><msgType>Alert</msgType><scope>Public</scope><info><eventCode><valueName>SAME</valueName><value>"
    ++ (bytes event
    ++ (bytes "</value></eventCode><expires>"
    ++ (bytes day
    ++ (bytes "T14:45:30-04:00</expires><senderName>County Bench</senderName>"
    ++ (bytes "<description>Water main broken.</description><instruction>Boil water.</instruction>"
    ++ bytes "<area><geocode><valueName>SAME</valueName><value>024031</value></geocode></area></info></alert>"))))))))

-- as it stands there
abbrev pub sample : List ℕ
sample = sample_on "2010-04-05" "CEM"

-- and with another event
abbrev pub other : List ℕ
other = sample_on "2010-04-05" "TOR"

-- the header of such a message on a board, and its notice: sent 323,805,630 seconds after 2000 began
abbrev pub sample_header : String → List ℕ
sample_header event = pad 243 (bytes "ZCZC-CIV-" ++ (bytes event ++ bytes "-024031+0045-0951800-"))

-- with its year, 2010
abbrev pub sample_dated : String → List ℕ
sample_dated event = sample_header event ++ (7 ∷ 218 ∷ [])

abbrev pub sample_notice : String → List ℕ
sample_notice event = notice (key_of 323805630 (bytes "b@c") (bytes "B1")) (sample_header event)

-- the station that the program uses
abbrev pub bench : List ℕ
bench = bytes "BENCH/01"

-- a board of two records, both empty
abbrev pub none_held : List ℕ
none_held = replicate 768 0

-- and with the sample's notice
abbrev pub one_held : List ℕ
one_held = encode 768 (sample_notice "CEM" ∷ [])

-- a board of four records with the notices of both messages: two headers are due, and there is room to hand out both
abbrev pub two_due : List ℕ
two_due = encode 1536 (sample_notice "CEM" ∷ (sample_notice "TOR" ∷ []))

-- the Required Weekly Test of day 065, of two years
abbrev pub weekly2010 : List ℕ
weekly2010 = sample_on "2010-03-06" "RWT"

abbrev pub weekly2011 : List ℕ
weekly2011 = sample_on "2011-03-06" "RWT"

-- their one header on a board, and with the year of which these are the bytes: 2010 is 7 and 218, 2011 is 7 and 219
abbrev pub weekly_header : List ℕ
weekly_header = bytes "ZCZC-CIV-RWT-024031+0045-0651800-" ++ replicate 210 0

abbrev pub weekly_in : ℕ → ℕ → List ℕ
weekly_in high low = weekly_header ++ (high ∷ low ∷ [])

-- the notice of one sent so many seconds after 2000 began, and the aired record with a year
abbrev pub weekly_notice : ℕ → List ℕ
weekly_notice sent = notice (key_of sent (bytes "b@c") (bytes "B1")) weekly_header

abbrev pub weekly_aired : ℕ → ℕ → List ℕ
weekly_aired high low = 3 ∷ (replicate 132 0 ++ (weekly_in high low ++ replicate 6 0))

-- a board of four records with both notices, of which that of 2010 was handed out
abbrev pub weekly_due : List ℕ
weekly_due = encode 1536 (weekly_notice 321213630 ∷ weekly_notice 352749630 ∷ weekly_aired 7 218 ∷ [])

-- ---- those that are rejected

-- the library, but for its headers
abbrev pub heading_by : ((s station : List ℕ) (header : ℕ) → HeaderOutcome) → Calls
heading_by heading = record {
  heading = heading;
  texting = library.texting;
  canadian = library.canadian;
  offering = library.offering;
  handing = library.handing;
  listing = library.listing;
  reading = library.reading;
  writing = library.writing;
}

-- but for its texts
abbrev pub texting_by : ((s station : List ℕ) (text uri : ℕ) → TextOutcome) → Calls
texting_by texting = record {
  heading = library.heading;
  texting = texting;
  canadian = library.canadian;
  offering = library.offering;
  handing = library.handing;
  listing = library.listing;
  reading = library.reading;
  writing = library.writing;
}

-- but for its Canadian mode
abbrev pub in_canada_by : ((s : List ℕ) (text uri : ℕ) → TextOutcome) → Calls
in_canada_by canadian = record {
  heading = library.heading;
  texting = library.texting;
  canadian = canadian;
  offering = library.offering;
  handing = library.handing;
  listing = library.listing;
  reading = library.reading;
  writing = library.writing;
}

-- but for its offers
abbrev pub offering_by : ((b s : List ℕ) → MessageOffering) → Calls
offering_by offering = record {
  heading = library.heading;
  texting = library.texting;
  canadian = library.canadian;
  offering = offering;
  handing = library.handing;
  listing = library.listing;
  reading = library.reading;
  writing = library.writing;
}

-- but for its hand-outs
abbrev pub handing_by : ((b : List ℕ) → Handing) → Calls
handing_by handing = record {
  heading = library.heading;
  texting = library.texting;
  canadian = library.canadian;
  offering = library.offering;
  handing = handing;
  listing = library.listing;
  reading = library.reading;
  writing = library.writing;
}

-- every header is refused, with this number and zeros elsewhere
abbrev pub refuses_headers : ℕ → Calls
refuses_headers number = heading_by (λ s station h. alone no_header number 0)

-- the same of every text
abbrev pub refuses_texts : ℕ → Calls
refuses_texts number = texting_by (λ s station t u. text_refused number 0)

-- of every text in the Canadian mode
abbrev pub refuses_in_canada : ℕ → Calls
refuses_in_canada number = in_canada_by (λ s t u. text_refused number 0)

-- every message has its own number, and one that gives a header gives the same as any other, chosen by the station
abbrev pub one_header : (List ℕ → HeaderGiven) → Calls
one_header one = heading_by (λ s station h.
    let o = library.heading s station h in record {
      number = o.number;
      field = o.field;
      given = pick (is_none o.given.header) no_header (one station);
    })

-- a text does not hang on the station, and whatever is lent for one is taken
abbrev pub forgets_stations : Calls
forgets_stations = texting_by (λ s station t u. library.texting s bench t u)

-- the answer is the library's, and the bytes stay as they were
abbrev pub writes_nothing : Calls
writes_nothing = offering_by (λ b s. record { answer = (library.offering b s).answer; bytes = b })

-- every offer that answers 0 says that it added so many records
abbrev pub invented_count : ℕ → Calls
invented_count count = offering_by (λ b s.
    let o = library.offering b s in record {
      answer = record { number = o.answer.number; field = o.answer.field; added = pick (eqb o.answer.number 0) count 0 };
      bytes = o.bytes;
    })

-- where an aired record stands on the board, nothing is due any more
abbrev pub nothing_after_first : Calls
nothing_after_first = handing_by (λ b. pick (some (λ r. eqb (kind r) 3) (board_of b)) (hand_refused 16 b) (library.handing b))

-- where the header that would be handed out was aired in any year, nothing is due
abbrev pub forgets_years : Calls
forgets_years = handing_by (λ b.
    let given = header (get_or (board_of b) (library.handing b).answer.index []) in
    pick (some (λ r. eqb (kind r) 3 && same (header r) given) (board_of b)) (hand_refused 16 b) (library.handing b))

-- ---- the last

-- each call answers as the library's, whatever it is lent
pub record SameAnswers (c : Calls) : Type 0 where
  pub heading : (s station : List ℕ) (h : ℕ) → c.heading s station h ≡ library.heading s station h
  pub texting : (s station : List ℕ) (t u : ℕ) → c.texting s station t u ≡ library.texting s station t u
  pub canadian : (s : List ℕ) (t u : ℕ) → c.canadian s t u ≡ library.canadian s t u
  pub offering : (b s : List ℕ) → c.offering b s ≡ library.offering b s
  pub handing : (b : List ℕ) → c.handing b ≡ library.handing b
  pub listing : (b : List ℕ) (rows : ℕ) → c.listing b rows ≡ library.listing b rows
  pub reading : (s : List ℕ) → c.reading s ≡ library.reading s
  pub writing : (d : List ℕ) (p : Parts) → c.writing d p ≡ library.writing d p

-- a message is copied before it is converted or offered, and nothing is put behind a header before it is read
abbrev pub careful : Calls
careful = record {
  heading = λ s station h. library.heading (take (length s) s) station h;
  texting = λ s station t u. library.texting (take (length s) s) station t u;
  canadian = λ s t u. library.canadian (take (length s) s) t u;
  offering = λ b s. library.offering b (take (length s) s);
  handing = library.handing;
  listing = library.listing;
  reading = λ s. library.reading (s ++ []);
  writing = library.writing;
}
