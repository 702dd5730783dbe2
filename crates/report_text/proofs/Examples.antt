-- Worked streams. Bytes, texts and places are from the format, by hand.
use Rattle.std.proofs.Common.{◌≡◌, [], length, map, ◌∷◌, List, ℕ, ◌++◌, refl, pos, negsuc, None, Some, codes}
use Rattle.std.specs.List.{concat}
use Rattle.ucd_category.proofs.Computing.{ucd_category}
use Rattle.rp_base.specs.declared.handlers.Handler.TheVariants as handler
use Rattle.rp_base.specs.declared.plain.Plain.TheVariants as plain
use Rattle.message_core.specs.declared.message.Message.TheVariants as message
use Rattle.message_core.specs.declared.faults.PeerKind.TheVariants as peer
use Rattle.report_text.specs.Computing.{dump_computing}
use Rattle.report_text.specs.Dumping.{dump_fault, dump_text, fault_at}
use Rattle.report_text.specs.MessageLines.{message_text}

-- the frame of (1, 0, (3, (1, ()))), 14 bytes
abbrev root : List ℕ
root = 0 ∷ 0 ∷ 0 ∷ 8 ∷ 0 ∷ 0x12 ∷ 0x51 ∷ 0x50 ∷ 0x11 ∷ 0x53 ∷ 0x11 ∷ 0x51 ∷ 2 ∷ 10 ∷ []

-- the frame of (3, 0, 1), 10 bytes
abbrev stopped : List ℕ
stopped = 0 ∷ 0 ∷ 0 ∷ 4 ∷ 0 ∷ 0x12 ∷ 0x53 ∷ 0x50 ∷ 0x51 ∷ 10 ∷ []

-- ---- texts

pub root_text : dump_text root ≡ codes "request 0 GETROOT (1, ())\n"
unfolding dump_computing
root_text = refl

pub two_texts : dump_text (stopped ++ root) ≡ codes "exception 0 1\nrequest 0 GETROOT (1, ())\n"
unfolding dump_computing
two_texts = refl

pub text_to_a_fault : dump_text (stopped ++ (4 ∷ 0 ∷ 0 ∷ 1 ∷ 0 ∷ []) ++ root) ≡ codes "exception 0 1\nfault F1 10\n"
unfolding dump_computing
text_to_a_fault = refl

pub nothing : dump_text [] ≡ []
unfolding dump_computing
nothing = refl

pub reply_text : message_text (message.Reply 12 (plain.Tuple (plain.Bytes (codes "a'") ∷ plain.Int (negsuc 2) ∷ []))) ≡ codes "reply 12 (b\"a'\", -3)"
unfolding dump_computing
reply_text = refl

pub request_text : message_text (message.Request 3 handler.Inspect (plain.Tuple (plain.None ∷ []))) ≡ codes "request 3 INSPECT (None,)"
unfolding dump_computing
request_text = refl

-- a conversation: its frames' data, and its lines
abbrev framed : List ℕ → List ℕ
framed body = 0 ∷ 0 ∷ 0 ∷ length body ∷ 0 ∷ body ++ 10 ∷ []

abbrev service : List ℕ
service = 0x12 ∷ 8 ∷ 0x0e ∷ 0x1e ∷ codes "rpyc.core.service.SlaveService" ++ 0x50 ∷ 0x52 ∷ []

abbrev dict : List ℕ
dict = 0x12 ∷ 8 ∷ 0x0e ∷ 0x0d ∷ codes "builtins.dict" ++ 0x50 ∷ 0x51 ∷ []

abbrev conversation : List (List ℕ)
conversation =
    (0x12 ∷ 0x51 ∷ 0x50 ∷ 0x11 ∷ 0x53 ∷ 0x11 ∷ 0x51 ∷ 2 ∷ []) ∷
    (0x12 ∷ 0x52 ∷ 0x50 ∷ 0x11 ∷ 0x54 ∷ service) ∷
    (0x12 ∷ 0x51 ∷ 0x51 ∷ 0x11 ∷ 0x54 ∷ 0x11 ∷ 0x52 ∷ 0x11 ∷ 0x11 ∷ 0x53 ∷ service ++ 0x11 ∷ 0x51 ∷ 8 ∷ 0x0e ∷ 9 ∷ codes "namespace") ∷
    (0x12 ∷ 0x52 ∷ 0x51 ∷ 0x11 ∷ 0x54 ∷ dict) ∷
    (0x12 ∷ 0x51 ∷ 0x52 ∷ 0x11 ∷ 0x58 ∷ 0x11 ∷ 0x52 ∷ 0x13 ∷ 0x11 ∷ 0x53 ∷ dict ++ 0x11 ∷ 0x51 ∷ 8 ∷ 0x0e ∷ 0x0b ∷ codes "__getitem__" ++ 0x11 ∷ 0x51 ∷ 0x10 ∷ 8 ∷ 10 ∷ 0x78 ∷ 0x11 ∷ 0x51 ∷ 2 ∷ []) ∷
    (0x12 ∷ 0x52 ∷ 0x52 ∷ 0x11 ∷ 0x51 ∷ 0x55 ∷ []) ∷
    (0x12 ∷ 0x51 ∷ 0x53 ∷ 0x11 ∷ 0x52 ∷ 0x11 ∷ 0x51 ∷ 2 ∷ []) ∷
    []

pub seven_lines : dump_text (concat (map framed conversation))
    ≡ codes "request 0 GETROOT (1, ())\n"
    ++ codes "reply 0 (4, ('rpyc.core.service.SlaveService', 0, 2))\n"
    ++ codes "request 1 GETATTR (2, ((3, ('rpyc.core.service.SlaveService', 0, 2)), (1, 'namespace')))\n"
    ++ codes "reply 1 (4, ('builtins.dict', 0, 1))\n"
    ++ codes "request 2 CALLATTR (2, ((3, ('builtins.dict', 0, 1)), (1, '__getitem__'), (1, ('x',)), (1, ())))\n"
    ++ codes "reply 2 (1, 5)\n"
    ++ codes "request 3 CLOSE (1, ())\n"
unfolding ucd_category dump_computing
seven_lines = refl

-- ---- faults of frames

pub none_in_two : dump_fault (root ++ root) ≡ None
unfolding dump_computing
none_in_two = refl

pub too_long : dump_fault (4 ∷ 0 ∷ 0 ∷ 1 ∷ 0 ∷ []) ≡ Some (fault_at (peer.F1 67108865) 0)
unfolding dump_computing
too_long = refl

pub compressed : dump_fault (0 ∷ 0 ∷ 0 ∷ 1 ∷ 1 ∷ []) ≡ Some (fault_at peer.F2 4)
unfolding dump_computing
compressed = refl

pub bad_flag : dump_fault (root ++ 0 ∷ 0 ∷ 0 ∷ 0 ∷ 2 ∷ []) ≡ Some (fault_at (peer.F3 2) 18)
unfolding dump_computing
bad_flag = refl

pub bad_flusher : dump_fault (root ++ 0 ∷ 0 ∷ 0 ∷ 1 ∷ 0 ∷ 0 ∷ 11 ∷ []) ≡ Some (fault_at (peer.F4 11) 20)
unfolding dump_computing
bad_flusher = refl

pub begun : dump_fault (root ++ 0 ∷ 0 ∷ 0 ∷ 1 ∷ []) ≡ Some (fault_at (peer.F5 4) 18)
unfolding dump_computing
begun = refl

-- ---- faults of brine

-- 0x07 is no tag
pub no_tag : dump_fault (0 ∷ 0 ∷ 0 ∷ 1 ∷ 0 ∷ 7 ∷ 10 ∷ []) ≡ Some (fault_at peer.B1 5)
unfolding dump_computing
no_tag = refl

-- in the second frame, 0x18 is the tag of a float
pub second : dump_fault (root ++ (0 ∷ 0 ∷ 0 ∷ 3 ∷ 0 ∷ 0x12 ∷ 0x51 ∷ 0x18 ∷ 10 ∷ []) ++ root) ≡ Some (fault_at (peer.B2 24) 21)
unfolding dump_computing
second = refl

-- a tuple without its item
pub cut_data : dump_fault (0 ∷ 0 ∷ 0 ∷ 1 ∷ 0 ∷ 0x10 ∷ 10 ∷ []) ≡ Some (fault_at peer.B3 6)
unfolding dump_computing
cut_data = refl

-- the int 5 as a text
pub long_int : dump_fault (0 ∷ 0 ∷ 0 ∷ 3 ∷ 0 ∷ 0x16 ∷ 1 ∷ 53 ∷ 10 ∷ []) ≡ Some (fault_at peer.B4 5)
unfolding dump_computing
long_int = refl

-- `05`
pub no_int : dump_fault (0 ∷ 0 ∷ 0 ∷ 4 ∷ 0 ∷ 0x16 ∷ 2 ∷ 48 ∷ 53 ∷ 10 ∷ []) ≡ Some (fault_at peer.B5 5)
unfolding dump_computing
no_int = refl

-- the text of the byte 0xff, in a tuple
pub no_text : dump_fault (0 ∷ 0 ∷ 0 ∷ 4 ∷ 0 ∷ 0x10 ∷ 8 ∷ 10 ∷ 0xff ∷ 10 ∷ []) ≡ Some (fault_at peer.B7 6)
unfolding dump_computing
no_text = refl

pub two_values : dump_fault (0 ∷ 0 ∷ 0 ∷ 2 ∷ 0 ∷ 0 ∷ 0 ∷ 10 ∷ []) ≡ Some (fault_at peer.B9 6)
unfolding dump_computing
two_values = refl

-- ---- faults of messages

pub no_message : dump_fault (0 ∷ 0 ∷ 0 ∷ 1 ∷ 0 ∷ 0 ∷ 10 ∷ []) ≡ Some (fault_at peer.M1 5)
unfolding dump_computing
no_message = refl

-- (4, 0, 0), in front of a compressed frame
pub kind_four : dump_fault (0 ∷ 0 ∷ 0 ∷ 4 ∷ 0 ∷ 0x12 ∷ 0x54 ∷ 0x50 ∷ 0x50 ∷ 10 ∷ 0 ∷ 0 ∷ 0 ∷ 1 ∷ 1 ∷ []) ≡ Some (fault_at (peer.M2 (pos 4)) 5)
unfolding dump_computing
kind_four = refl

-- (1, 0, (21, ()))
pub no_handler : dump_fault (0 ∷ 0 ∷ 0 ∷ 6 ∷ 0 ∷ 0x12 ∷ 0x51 ∷ 0x50 ∷ 0x11 ∷ 0x65 ∷ 2 ∷ 10 ∷ []) ≡ Some (fault_at (peer.M3 (pos 21)) 5)
unfolding dump_computing
no_handler = refl

-- (1, 0, (12, ()))
pub left_out : dump_fault (root ++ 0 ∷ 0 ∷ 0 ∷ 6 ∷ 0 ∷ 0x12 ∷ 0x51 ∷ 0x50 ∷ 0x11 ∷ 0x5c ∷ 2 ∷ 10 ∷ []) ≡ Some (fault_at (peer.M4 12) 19)
unfolding dump_computing
left_out = refl
