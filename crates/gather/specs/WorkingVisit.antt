-- The pass over the tree: what is gathered of it, element by element.
use Rattle.std.specs.Prelude.{ℕ, ◌+◌, List, [], ◌∷◌, length, get_or, set, eqb, ltb}
use Rattle.octets.specs.Bytes.{pick}
use Rattle.std.specs.Prelude.{Option, Some, None}
use Rattle.markup.specs.Tree.{Tag, Forest, nil, text, elem, One, one, none, Held, held, bad}
use Rattle.reads.specs.WorkingLeaves.{no_leaf, marked, found, no_info, nothing_read}
use Rattle.reads.specs.Names.{context_of}
use Rattle.reads.specs.WorkingSteps.{event_step, parameter_step, location_step, audio_step, info_step, later_step}
use Rattle.reads.specs.declared.Leaf.{Leaf}
use Rattle.reads.specs.declared.Info.{Info}
use Rattle.reads.specs.declared.Alert.{Alert}
use Rattle.reads.specs.declared.State.{State}
use Rattle.reads.specs.declared.Context.{Context}
use Rattle.reads.specs.declared.Context.TheVariants as ctx
use Rattle.gather.specs.declared.Touch.{Touch}
use Rattle.gather.specs.declared.Touch.TheVariants.{Holds, Stands}
use Rattle.gather.specs.declared.Gathered.{Gathered}

-- ---- leaves

unfoldable pub touched : Touch → Leaf → Leaf
touched Holds l = marked l
touched (Stands at) l = found l at

-- the leaf at k, of n
abbrev pub touched_at : ℕ → Touch → ℕ → List Leaf → List Leaf
touched_at n t k ls = pick (ltb k n) (set ls k (touched t (get_or ls k (no_leaf 0)))) ls

abbrev pub touch_alert : Touch → ℕ → Alert → Alert
touch_alert t k a = record { leaf = touched_at 7 t k a.leaf; kept = a.kept; info = a.info; fault = a.fault }

abbrev pub touch_info : Touch → ℕ → Info → Info
touch_info t k i = record { leaf = touched_at 5 t k i.leaf; events = i.events; parameters = i.parameters; locations = i.locations; audio = i.audio }

abbrev pub touch_pair : Touch → ℕ → List Leaf → List Leaf
touch_pair t k p = touched_at 2 t k p

-- what is learnt of the leaf of a context; of one that is no leaf, nothing is
unfoldable pub touch_in : Touch → Context → State → State
touch_in t (ctx.AlertLeaf k) st = record { alert = touch_alert t k st.alert; info = st.info; pair = st.pair }
touch_in t (ctx.InfoLeaf k) st = record { alert = st.alert; info = touch_info t k st.info; pair = st.pair }
touch_in t (ctx.PairLeaf k) st = record { alert = st.alert; info = st.info; pair = touch_pair t k st.pair }
touch_in t ctx.Root st = st
touch_in t ctx.Alert st = st
touch_in t ctx.Info st = st
touch_in t ctx.Later st = st
touch_in t ctx.EventCode st = st
touch_in t ctx.Parameter st = st
touch_in t ctx.Resource st = st
touch_in t ctx.Area st = st
touch_in t ctx.Geocode st = st
touch_in t ctx.Skipped st = st

-- ---- the end of an element

-- an eventCode, a parameter, a geocode or a resource adds what its two leaves say
unfoldable pub pair_added : List ℕ → Context → Info → Leaf → Leaf → Info
pair_added s ctx.EventCode i x y = record { leaf = i.leaf; events = event_step s i.events x y; parameters = i.parameters; locations = i.locations; audio = i.audio }
pair_added s ctx.Parameter i x y = record { leaf = i.leaf; events = i.events; parameters = parameter_step s i.parameters x y; locations = i.locations; audio = i.audio }
pair_added s ctx.Geocode i x y = record { leaf = i.leaf; events = i.events; parameters = i.parameters; locations = location_step s i.locations x y; audio = i.audio }
pair_added s ctx.Resource i x y = record { leaf = i.leaf; events = i.events; parameters = i.parameters; locations = i.locations; audio = audio_step s i.audio x y }
pair_added s ctx.Root i x y = i
pair_added s ctx.Alert i x y = i
pair_added s ctx.Info i x y = i
pair_added s ctx.Later i x y = i
pair_added s ctx.Area i x y = i
pair_added s (ctx.AlertLeaf k) i x y = i
pair_added s (ctx.InfoLeaf k) i x y = i
pair_added s (ctx.PairLeaf k) i x y = i
pair_added s ctx.Skipped i x y = i

abbrev pub pair_left : List ℕ → Context → State → State
pair_left s k st = record {
  alert = st.alert;
  info = pair_added s k st.info (get_or st.pair 0 (no_leaf 0)) (get_or st.pair 1 (no_leaf 0));
  pair = no_leaf (length s) ∷ no_leaf (length s) ∷ [];
}

abbrev pub info_left : List ℕ → State → State
info_left s st = record { alert = info_step s st.alert st.info; info = no_info (length s); pair = st.pair }

abbrev pub later_left : ℕ → State → State
later_left n st = record { alert = later_step st.alert st.info; info = no_info n; pair = st.pair }

-- an element of the context k ends, whose value, if it is a leaf, begins at the place
unfoldable pub left : List ℕ → Context → ℕ → State → State
left s ctx.EventCode at st = pair_left s ctx.EventCode st
left s ctx.Parameter at st = pair_left s ctx.Parameter st
left s ctx.Geocode at st = pair_left s ctx.Geocode st
left s ctx.Resource at st = pair_left s ctx.Resource st
left s ctx.Info at st = info_left s st
left s ctx.Later at st = later_left (length s) st
left s (ctx.AlertLeaf k) at st = touch_in (Stands at) (ctx.AlertLeaf k) st
left s (ctx.InfoLeaf k) at st = touch_in (Stands at) (ctx.InfoLeaf k) st
left s (ctx.PairLeaf k) at st = touch_in (Stands at) (ctx.PairLeaf k) st
left s ctx.Root at st = st
left s ctx.Alert at st = st
left s ctx.Area at st = st
left s ctx.Skipped at st = st

-- ---- the pass

-- where the value of a leaf begins that holds what stands from b to e; what holds nothing has the value of the message's end
unfoldable pub leaf_place : List ℕ → ℕ → ℕ → ℕ
leaf_place s b e = pick (eqb b e) (length s) b

-- the context inside an element, from the one that it stands in
abbrev pub context_in : List ℕ → List ℕ → Context → State → Tag → Context
context_in s p c st g = context_of s p (g.from + 1) g.name c st.alert.kept

-- what is held in the context c, under the root's prefix p, adds to what is gathered: each element, when it begins, marks a leaf that it stands in; then comes
-- what it holds; then its end
unfoldable pub visit : List ℕ → List ℕ → Context → State → Forest → State
visit s p c st nil = st
visit s p c st (text i j rest) = visit s p c st rest
visit s p c st (elem g kids rest) =
    visit s p c
    (left s (context_in s p c st g) (leaf_place s g.body g.shut) (visit s p (context_in s p c st g) (touch_in Holds c st) kids))
    rest

abbrev pub nothing_got : ℕ → Gathered
nothing_got n = record { end = None; state = nothing_read n }

-- an answer as it counts: what does not end has gathered nothing, whatever state is handed back
abbrev pub settled_as : ℕ → Option ℕ → Gathered → Gathered
settled_as n (Some e) r = r
settled_as n None r = nothing_got n

abbrev pub settled : ℕ → Gathered → Gathered
settled n r = settled_as n r.end r

-- an answer, with the state that is lent
abbrev pub got_in : Option ℕ → State → Gathered
got_in e st = record { end = e; state = st }

unfoldable pub finished : ℕ → Option ℕ → State → Gathered
finished n (Some e) st = record { end = Some e; state = st }
finished n None st = nothing_got n

unfoldable pub got_one : List ℕ → List ℕ → Context → State → One → Gathered
got_one s p c st (one g kids e) = record { end = Some e; state = visit s p c st (elem g kids nil) }
got_one s p c st none = nothing_got (length s)

unfoldable pub got_held : List ℕ → List ℕ → Context → State → Held → Gathered
got_held s p c st (held t j) = record { end = Some j; state = visit s p c st t }
got_held s p c st bad = nothing_got (length s)
