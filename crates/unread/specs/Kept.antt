-- Two messages "that differ only inside elements that are skipped, in comments, or in info blocks after the first whose language is absent, empty or en-US.
-- In those blocks language is left as it was": all that may differ is taken out of their trees, and the same is kept. s is a message and p its root's prefix.
--     OnlyUnreadDiffers     two such messages
use Rattle.std.specs.Prelude.{ℕ, ◌+◌, ◌≡◌, Bool, true, ◌&&◌, not, List, length}
use Rattle.octets.specs.Bytes.{pick, between, same}
use Rattle.octets.specs.Text.{bytes}
use Rattle.markup.specs.Tree.{Forest, nil, text, elem, One, one, none}
use Rattle.markup.specs.Document.{doc_at}
use Rattle.reads.specs.Names.{inside}
use Rattle.reads.specs.declared.Kept as infos
use Rattle.reads.specs.declared.Kept.TheVariants.{Nothing, Selected}
use Rattle.reads.specs.declared.Context.{Context}
use Rattle.reads.specs.declared.Context.TheVariants as ctx
use Rattle.gather.specs.Read.{Element, name_in, bare}
use Rattle.leaves.specs.Leaf.{leaf_value}
use Rattle.told.specs.Values.{is_english}
use Rattle.message.specs.Root.{prefix_of}
use Rattle.demands.specs.Numbers.{is_read, root_is}

-- ---- what is kept: a tree of names and values, without places, comments, attributes, and text outside leaves

-- a leaf that is read: its value, decoded and collapsed, and whether it holds an element, which is a fault
pub record KeptLeaf : Type 0 where
  pub value : List ℕ
  pub holds : Bool

-- what is kept of what an element holds, in message order
pub data KeptTree : Type 0 where
  done : KeptTree
  leaf : List ℕ → KeptLeaf → KeptTree → KeptTree  -- a leaf that is read: its name without prefix; what is kept of it; what follows
  node : List ℕ → KeptTree → KeptTree → KeptTree  -- another element that is read: its name; what is kept of what it holds; what follows

-- what is kept of a leaf
abbrev pub leaf_by : List ℕ → Element → KeptLeaf
leaf_by s e = record { value = leaf_value s e.holds; holds = not (bare e.holds) }

-- ---- what is taken out

-- an element, by the context inside it, as the pass over a message goes by it: one that is skipped, a leaf that is read, another that is read
pub data Kind : Type 0 where
  skipped : Kind
  leafy : Kind
  inner : Kind

unfoldable pub kind_of : Context → Kind
kind_of ctx.Skipped = skipped
kind_of (ctx.AlertLeaf k) = leafy
kind_of (ctx.InfoLeaf k) = leafy
kind_of (ctx.PairLeaf k) = leafy
kind_of ctx.Root = inner
kind_of ctx.Alert = inner
kind_of ctx.Info = inner
kind_of ctx.Later = inner
kind_of ctx.EventCode = inner
kind_of ctx.Parameter = inner
kind_of ctx.Resource = inner
kind_of ctx.Area = inner
kind_of ctx.Geocode = inner

-- an element of the name w before what follows; one that is skipped is taken out whole
unfoldable pub kept_as : Kind → List ℕ → KeptLeaf → KeptTree → KeptTree → KeptTree
kept_as skipped w l t rest = rest
kept_as leafy w l t rest = leaf w l rest
kept_as inner w l t rest = node w t rest

-- what is kept of what an element of the context c holds; comments are not in the tree, and text that stands beside elements is not read
unfoldable pub kept_in : List ℕ → List ℕ → Context → Forest → KeptTree
kept_in s p c nil = done
kept_in s p c (text i j rest) = kept_in s p c rest
kept_in s p c (elem g kids rest) =
    let w = name_in s p g in
    kept_as (kind_of (inside Nothing c w)) w (leaf_by s (record { tag = g; holds = kids })) (kept_in s p (inside Nothing c w) kids) (kept_in s p c rest)

-- behind an info whose language is absent, empty or `en-US`, which is selected, the infos are later ones
abbrev pub next_to : List ℕ → List ℕ → infos.Kept → Element → infos.Kept
next_to s p n e = pick (same (name_in s p e.tag) (bytes "info") && is_english s p e) Selected n

-- what is kept of what the alert holds; in a later info every element but language is skipped
unfoldable pub kept_from : List ℕ → List ℕ → infos.Kept → Forest → KeptTree
kept_from s p n nil = done
kept_from s p n (text i j rest) = kept_from s p n rest
kept_from s p n (elem g kids rest) =
    let w = name_in s p g in
    let c = inside n ctx.Alert w in
    kept_as (kind_of c) w (leaf_by s (record { tag = g; holds = kids })) (kept_in s p c kids)
    (kept_from s p (next_to s p n (record { tag = g; holds = kids })) rest)

-- what is kept of a message's document
unfoldable pub kept_of : List ℕ → One → KeptTree
kept_of s none = done
kept_of s (one g kids e) = kept_from s (prefix_of s (g.from + 1) g.name) Nothing kids

-- ---- two messages

pub record OnlyUnreadDiffers (s r : List ℕ) : Type 0 where
  -- both of the length
  pub length-s : between 1 32768 (length s) ≡ true
  pub length-r : between 1 32768 (length r) ≡ true
  -- and subset allowed
  pub subset-s : is_read (doc_at s) ≡ true
  pub subset-r : is_read (doc_at r) ≡ true
  -- and with the same root: `alert` of the namespace in both, or in neither
  pub root : root_is s (doc_at s) ≡ root_is r (doc_at r)
  -- that differ only in what is taken out
  pub kept : kept_of s (doc_at s) ≡ kept_of r (doc_at r)
