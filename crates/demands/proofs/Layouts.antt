-- Records byte by byte, as document 01 lays them out: of the sample, of a Cancel that names it, and of its hand-out.
--     notice-laid-out, cancel-laid-out, aired-laid-out
use Prim.Native.Nat.{ℕ}
use mathlib.Core.Path.{◌≡◌, refl}
use mathlib.Core.List.{List, [], ◌∷◌, ◌++◌}
use lib.ListN.{replicate}
use Rattle.octets.specs.Text.{bytes}
use Rattle.board.specs.Rules.{board_of}
use Rattle.demands.specs.Calls.{library}
use Rattle.demands.specs.Board.{due_headers}
use Rattle.demands.specs.StandIns.{sample, none_held, one_held}
use Rattle.demands.proofs.Opens.{computing}

-- a quiet Cancel that names the sample: sender, identifier, sent
abbrev cancel : List ℕ
cancel =
    bytes "<alert xmlns=\"urn:oasis:names:tc:emergency:cap:1.2\"><identifier>C1</identifier><sender>b@c</sender><sent>2010-04-05T14:10:30-04:00</sent>"
    ++ (bytes "<status>Actual</status><msgType>Cancel</msgType><scope>Public</scope>"
    ++ bytes "<references>b@c,B1,2010-04-05T14:00:30-04:00</references></alert>")

-- 1 to 4: sent, 323,805,630 seconds since 2000 began, highest byte first; 5 to 68 sender, 69 to 132 identifier, each zero-filled
abbrev key : List ℕ
key = 19 ∷ 76 ∷ 225 ∷ 190 ∷ (bytes "b@c" ++ (replicate 61 0 ++ (bytes "B1" ++ replicate 62 0)))

-- 133 to 375 the header through the dash after JJJHHMM, zero-filled; 376 to 383 zero
abbrev filled_header : List ℕ
filled_header = bytes "ZCZC-CIV-CEM-024031+0045-0951800-" ++ replicate 210 0

abbrev head : List ℕ
head = filled_header ++ replicate 8 0

-- kind 1 notice uses all
pub notice-laid-out : library.offering none_held sample ≡ record { answer = record { number = 0; field = 0; added = 1 }; bytes = 1 ∷ (key ++ (head ++ replicate 384 0)) }
unfolding computing
notice-laid-out = refl

abbrev cancelled : List ℕ
cancelled = 1 ∷ (key ++ (head ++ (2 ∷ (key ++ replicate 251 0))))

-- kind 2 withdrawal has no header; nothing is then due
pub cancel-laid-out : library.offering one_held cancel ≡ record { answer = record { number = 0; field = 0; added = 1 }; bytes = cancelled }
unfolding computing
cancel-laid-out = refl

pub none-due : due_headers (board_of cancelled) ≡ []
unfolding computing
none-due = refl

-- kind 3 aired has only a header with its year, 2010 in 376 and 377, high byte first; 378 to 383 zero
abbrev aired_tail : List ℕ
aired_tail = filled_header ++ (7 ∷ 218 ∷ replicate 6 0)

pub aired-laid-out : library.handing one_held ≡ record { answer = record { number = 0; index = 0 }; bytes = 1 ∷ (key ++ (head ++ (3 ∷ (replicate 132 0 ++ aired_tail)))) }
unfolding computing
aired-laid-out = refl
