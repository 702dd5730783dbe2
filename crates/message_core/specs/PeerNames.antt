-- The printed codes of a peer's faults.
use Rattle.std.specs.Prelude.{ℕ, List, codes}
use Rattle.message_core.specs.declared.faults.PeerKind.{PeerKind}
use Rattle.message_core.specs.declared.faults.PeerKind.TheVariants as peer

-- the code: F is a fault of frames, B of brine, M of messages, V of boxes, E of exceptions, P of proxies, N of what was asked or exported, X of releases
abbrev pub peer_code : PeerKind → List ℕ
peer_code (peer.F1 _) = codes "F1"
peer_code peer.F2 = codes "F2"
peer_code (peer.F3 _) = codes "F3"
peer_code (peer.F4 _) = codes "F4"
peer_code (peer.F5 _) = codes "F5"
peer_code peer.B1 = codes "B1"
peer_code (peer.B2 _) = codes "B2"
peer_code peer.B3 = codes "B3"
peer_code peer.B4 = codes "B4"
peer_code peer.B5 = codes "B5"
peer_code peer.B6 = codes "B6"
peer_code peer.B7 = codes "B7"
peer_code peer.B8 = codes "B8"
peer_code peer.B9 = codes "B9"
peer_code peer.M1 = codes "M1"
peer_code (peer.M2 _) = codes "M2"
peer_code (peer.M3 _) = codes "M3"
peer_code (peer.M4 _) = codes "M4"
peer_code (peer.M5 _) = codes "M5"
peer_code peer.V1 = codes "V1"
peer_code (peer.V2 _) = codes "V2"
peer_code peer.V3 = codes "V3"
peer_code peer.V4 = codes "V4"
peer_code peer.E1 = codes "E1"
peer_code peer.P1 = codes "P1"
peer_code (peer.N1 _) = codes "N1"
peer_code (peer.N2 _) = codes "N2"
peer_code (peer.N3 _) = codes "N3"
peer_code peer.N4 = codes "N4"
peer_code peer.X2 = codes "X2"
peer_code (peer.X3 _) = codes "X3"
