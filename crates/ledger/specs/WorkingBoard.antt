-- The board as the strictly ascending list of its filled records: what is due, and what an offer and a hand-out do to it.
-- Headers that records carry, that are due or handed out are with their years; that of an alert is the header alone.
use Rattle.std.specs.Prelude.{ℕ, zero, suc, ◌≤◌, ◌≡◌, Bool, not, List, [], ◌∷◌, ◌++◌, map, leb, eqb, length}
use Rattle.octets.specs.Bytes.{pick, every, holds, same}
use Rattle.records.specs.Record.{kind, key, carried, notice, withdrawal, aired}
use Rattle.ledger.specs.declared.Row.{Row}
use Rattle.ledger.specs.Sorted.{In, has, insert, insert_all}

-- ---- what is due

-- a notice that no withdrawal on b withdraws
unfoldable pub unwithdrawn : List (List ℕ) → List ℕ → Bool
unwithdrawn b r = every holds (eqb (kind r) 1 ∷ not (has (withdrawal (key r)) b) ∷ [])

-- a notice not withdrawn whose header no aired record of b has: it makes that header due
unfoldable pub live : List (List ℕ) → List ℕ → Bool
live b r = every holds (unwithdrawn b r ∷ not (has (aired (carried r)) b) ∷ [])

-- the headers of those of l that pass p
abbrev pub headers : (List ℕ → Bool) → List (List ℕ) → List (List ℕ)
headers p [] = []
headers p (r ∷ rs) = pick (p r) (carried r ∷ headers p rs) (headers p rs)

-- the same, strictly ascending
abbrev pub ordered : (List ℕ → Bool) → List (List ℕ) → List (List ℕ)
ordered p l = insert_all (headers p l) []

-- the due headers, strictly ascending
unfoldable pub due : List (List ℕ) → List (List ℕ)
due b = ordered (live b) b

-- a header is due: a notice not withdrawn carries it, and no aired record does
pub record Due (b : List (List ℕ)) (h : List ℕ) : Type 0 where
  pub by : List ℕ
  pub held : In by b
  pub is-notice : kind by ≡ 1
  pub carries : carried by ≡ h
  pub not-withdrawn : In (withdrawal (key by)) b → ⊥
  pub not-aired : In (aired h) b → ⊥

-- ---- the rows of the due headers

-- r passes p and carries h
unfoldable pub carries : (List ℕ → Bool) → List ℕ → List ℕ → Bool
carries p h r = every holds (p r ∷ same (carried r) h ∷ [])

-- the index of the first of l that passes p and carries h
abbrev pub index_of : (List ℕ → Bool) → List ℕ → List (List ℕ) → ℕ
index_of p h [] = zero
index_of p h (r ∷ rs) = pick (carries p h r) zero (suc (index_of p h rs))

-- how many of l pass p and carry h
abbrev pub count_of : (List ℕ → Bool) → List ℕ → List (List ℕ) → ℕ
count_of p h [] = zero
count_of p h (r ∷ rs) = pick (carries p h r) (suc (count_of p h rs)) (count_of p h rs)

-- the index of the smallest notice that makes a header due, and how many notices not withdrawn carry it
abbrev pub row_of : List (List ℕ) → List ℕ → Row
row_of b h = record { index = index_of (live b) h b; count = count_of (unwithdrawn b) h b }

-- one row for each due header, in header order
unfoldable pub rows_of : List (List ℕ) → List Row
rows_of b = map (row_of b) (due b)

-- ---- offers

-- what a taken message leaves: its own sent, sender and identifier, its header (one, or none if it is quiet),
-- and what an Update or a Cancel names
pub record Alert : Type 0 where
  pub own : List ℕ
  pub carries : List (List ℕ)
  pub names : List (List ℕ)

-- its notice, and one withdrawal for each reference
abbrev pub records : Alert → List (List ℕ)
records a = map (notice a.own) a.carries ++ map withdrawal a.names

-- an offer to a board with room for cap records: all of the message's records, or none where fewer are empty
abbrev pub offer : ℕ → Alert → List (List ℕ) → List (List ℕ)
offer cap a b = pick (leb (length (insert_all (records a) b)) cap) (insert_all (records a) b) b

-- no offer is refused for room
abbrev pub Taken : ℕ → List Alert → List (List ℕ) → Type 0
Taken cap [] b = Unit {0}
Taken cap (a ∷ r) b = (length (insert_all (records a) b) ≤ cap) × Taken cap r (offer cap a b)

-- the fields have their lengths: 132 bytes of sent, sender and identifier, 243 of header
pub record Shaped (a : Alert) : Type 0 where
  pub own-long : length a.own ≡ 132
  pub carried-long : (h : List ℕ) → In h a.carries → length h ≡ 243

-- the notice of one of l carries the header h, and none of l names it
pub record Carried (l : List Alert) (h : List ℕ) : Type 0 where
  pub by : Alert
  pub taken : In by l
  pub header : List ℕ
  pub has-it : In header by.carries
  pub carries : carried (notice by.own header) ≡ h
  pub not_named : (a : Alert) → In a l → In by.own a.names → ⊥

-- ---- hand-outs

-- the board after a call, and the headers that it handed out: none or one
pub record After : Type 0 where
  pub board : List (List ℕ)
  pub given : List (List ℕ)

-- the first of the due headers is handed out where there is room for its aired record
abbrev pub hand_out_of : ℕ → List (List ℕ) → List (List ℕ) → After
hand_out_of cap b [] = record { board = b; given = [] }
hand_out_of cap b (h ∷ hs) =
    pick (leb (length (insert (aired h) b)) cap)
    (record { board = insert (aired h) b; given = h ∷ [] })
    (record { board = b; given = [] })

abbrev pub hand_out : ℕ → List (List ℕ) → After
hand_out cap b = hand_out_of cap b (due b)

-- what n hand-outs give, one after the other
abbrev pub hands : ℕ → ℕ → List (List ℕ) → List (List ℕ)
hands cap zero b = []
hands cap (suc n) b = (hand_out cap b).given ++ hands cap n (hand_out cap b).board

-- ---- any mixture of the two

pub data Call : Type 0 where
  offered : Alert → Call
  handed_out : Call

abbrev pub step : ℕ → Call → List (List ℕ) → After
step cap (offered a) b = record { board = offer cap a b; given = [] }
step cap handed_out b = hand_out cap b

-- the headers that a run of calls hands out, in order
abbrev pub given : ℕ → List Call → List (List ℕ) → List (List ℕ)
given cap [] b = []
given cap (c ∷ cs) b = (step cap c b).given ++ given cap cs (step cap c b).board

-- the board after them
abbrev pub ran : ℕ → List Call → List (List ℕ) → List (List ℕ)
ran cap [] b = b
ran cap (c ∷ cs) b = ran cap cs (step cap c b).board

-- and after offers alone
abbrev pub offers : ℕ → List Alert → List (List ℕ) → List (List ℕ)
offers cap l b = ran cap (map offered l) b

-- the alert of a call that is an offer and has room
abbrev pub taken_by : ℕ → Call → List (List ℕ) → List Alert
taken_by cap (offered a) b = pick (leb (length (insert_all (records a) b)) cap) (a ∷ []) []
taken_by cap handed_out b = []

-- the alerts taken by a run of calls
abbrev pub taken_in : ℕ → List Call → List (List ℕ) → List Alert
taken_in cap [] b = []
taken_in cap (c ∷ cs) b = taken_by cap c b ++ taken_in cap cs (step cap c b).board

-- each alert offered among them is of this kind
abbrev pub Offered : (Alert → Type 0) → List Call → Type 0
Offered P [] = Unit {0}
Offered P (offered a ∷ cs) = P a × Offered P cs
Offered P (handed_out ∷ cs) = Offered P cs

-- no header twice
abbrev pub Once : List (List ℕ) → Type 0
Once [] = Unit {0}
Once (h ∷ hs) = (In h hs → ⊥) × Once hs
