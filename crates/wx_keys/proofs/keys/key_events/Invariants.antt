use Rattle.std.proofs.Common.{◌≡◌, ◌++◌, drop, map}
use Rattle.std.specs.List.{filter_map}
use Rattle.wx_keys.specs.Keys.{byte_key, up_to_eof, key_event, key_events}
use Rattle.wx_keys.proofs.keys.key_events.Given as goal

abbrev pub invariant-loop-byte : goal.invariant-loop-byte
invariant-loop-byte l = l.events ++ map key_event (up_to_eof (filter_map byte_key (drop l.byte-index l.bytes))) ≡ key_events l.bytes
