-- What an eventCode, a parameter, a geocode, a resource and an info add to what has been read. n is a place, whose value is value_at s n.
use Rattle.std.specs.Prelude.{ℕ, suc, ◌+◌, Bool, true, false, ◌&&◌, ◌||◌, not, List, [], ◌∷◌, map, length, set, eqb, leb}
use Rattle.octets.specs.Bytes.{pick, every, holds, between, same}
use Rattle.octets.specs.Text.{bytes}
use Rattle.std.specs.Prelude.{Option, Some, None, option_map}
use Rattle.values.specs.Value.{value_at, small}
use Rattle.values.specs.WorkingSteps.{is_printable, six_digits}
use Rattle.reads.specs.declared.Leaf.{Leaf}
use Rattle.reads.specs.declared.Events.{Events}
use Rattle.reads.specs.declared.Parameters.{Parameters}
use Rattle.reads.specs.declared.Locations.{Locations}
use Rattle.reads.specs.declared.Audio.{Audio}
use Rattle.reads.specs.declared.Info.{Info}
use Rattle.reads.specs.declared.Alert.{Alert}
use Rattle.reads.specs.declared.Kept.{Kept}
use Rattle.reads.specs.declared.Kept.TheVariants.{Nothing, First, Selected}
use Rattle.reads.specs.WorkingParameters.{ReadParameter, read_parameters, is_of}
use Rattle.reads.specs.WorkingLeaves.{found, sound_of, pair_ok, language_leaf}

-- the value at n is this text
abbrev pub says : List ℕ → ℕ → List ℕ → Bool
says s n w = same (value_at s n) w

-- an eventCode: valueName SAME
unfoldable pub event_step : List ℕ → Events → Leaf → Leaf → Events
event_step s e name value =
    pick (pair_ok name value)
    (pick (says s name.at (bytes "SAME")) (record { same = found e.same value.at; fault = e.fault }) e)
    (record { same = e.same; fault = true })

-- one parameter, by its name and its value, adds to the leaf of a row that it is one of
abbrev pub row_step : List ℕ → Leaf → Leaf → ReadParameter → Leaf → Leaf
row_step s name value r l = pick (is_of r (value_at s name.at) (value_at s value.at)) (found l value.at) l

-- of each row
unfoldable pub rows_step : List ℕ → Leaf → Leaf → List ReadParameter → List Leaf → List Leaf
rows_step s name value [] ls = []
rows_step s name value (r ∷ rs) [] = []
rows_step s name value (r ∷ rs) (l ∷ ls) = row_step s name value r l ∷ rows_step s name value rs ls

unfoldable pub parameter_step : List ℕ → Parameters → Leaf → Leaf → Parameters
parameter_step s e name value =
    pick (pair_ok name value)
    (record { leaf = rows_step s name value read_parameters e.leaf; fault = e.fault })
    (record { leaf = e.leaf; fault = true })

-- the place of the first row that a parameter of the name w and the value v is one of, counted from 0; None where it is of none
unfoldable pub parameter_row : List ReadParameter → List ℕ → List ℕ → Option ℕ
parameter_row [] w v = None
parameter_row (r ∷ rs) w v = pick (is_of r w v) (Some 0) (option_map suc (parameter_row rs w v))

-- the first 31 in message order are placed, repeats kept
unfoldable pub with_location : Locations → ℕ → Locations
with_location e v =
    pick (leb 31 e.count) e
    (record { count = e.count + 1; list = set e.list e.count v; bad = e.bad; fault = e.fault })

abbrev pub location_of : Locations → Option ℕ → Locations
location_of e (Some v) = with_location e v
location_of e None = record { count = e.count; list = e.list; bad = true; fault = e.fault }

-- a geocode: every one named SAME must be six digits
unfoldable pub location_step : List ℕ → Locations → Leaf → Leaf → Locations
location_step s e name value =
    pick (pair_ok name value)
    (pick (says s name.at (bytes "SAME")) (location_of e (six_digits (value_at s value.at))) e)
    (record { count = e.count; list = e.list; bad = e.bad; fault = true })

-- mimeType `audio/x-ipaws-audio-mp3` (1), `audio/x-ipaws-audio-wav` (2) or `audio/x-ipaws-streaming-audio-mp3` (3); any other 0
unfoldable pub audio_of : List ℕ → ℕ → ℕ
audio_of s n =
    pick (says s n (bytes "audio/x-ipaws-audio-mp3")) 1
    (pick (says s n (bytes "audio/x-ipaws-audio-wav")) 2
    (pick (says s n (bytes "audio/x-ipaws-streaming-audio-mp3")) 3 0))

-- a uri: 1 to 1,024 characters of 32 to 126
unfoldable pub uri_ok : List ℕ → Bool
uri_ok v = every holds (between 1 1024 (length v) ∷ every is_printable v ∷ [])

-- such a mimeType and such a uri
abbrev pub is_audio : List ℕ → Leaf → Leaf → Bool
is_audio s mime uri = not (eqb (audio_of s mime.at) 0) && uri_ok (value_at s uri.at)

-- a resource: the first that is audio is chosen
unfoldable pub audio_step : List ℕ → Audio → Leaf → Leaf → Audio
audio_step s e mime uri =
    pick (sound_of mime && sound_of uri)
    (pick (eqb e.number 0 && is_audio s mime uri) (record { number = audio_of s mime.at; uri = uri.at; fault = e.fault }) e)
    (record { number = e.number; uri = e.uri; fault = true })

-- a language that is absent, empty or `en-US` in any letter case
unfoldable pub english : List ℕ → Leaf → Bool
english s language = says s language.at [] || same (map small (value_at s language.at)) (bytes "en-us")

abbrev pub language_fault : Alert → Info → Bool
language_fault a i = a.fault || not (sound_of (language_leaf i))

-- no info is kept yet
abbrev pub is_nothing : Kept → Bool
is_nothing Nothing = true
is_nothing First = false
is_nothing Selected = false

-- the first info of such a language is selected; if none, the first
unfoldable pub info_step : List ℕ → Alert → Info → Alert
info_step s a i =
    pick (english s (language_leaf i)) (record { leaf = a.leaf; kept = Selected; info = i; fault = language_fault a i })
    (pick (is_nothing a.kept) (record { leaf = a.leaf; kept = First; info = i; fault = language_fault a i })
    (record { leaf = a.leaf; kept = a.kept; info = a.info; fault = language_fault a i }))

-- only it is judged further, apart from language, which is read in each
unfoldable pub later_step : Alert → Info → Alert
later_step a i = record { leaf = a.leaf; kept = a.kept; info = a.info; fault = language_fault a i }
