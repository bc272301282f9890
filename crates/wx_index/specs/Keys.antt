-- By what bytes entries are found, and what it is to be found.
use Rattle.std.specs.Prelude.{List, map, Option, IfSome}
use Rattle.wx_tree.specs.Places.{spelled}
use Rattle.wx_recursor.specs.declared.known.Identity.{Identity}
use Rattle.wx_recursor.specs.declared.known.Identity.TheVariants.{Canonical, Lexical}
use Rattle.wx_recursor.specs.declared.known.Known.{Known}
use Rattle.wx_index.specs.Chained.{AreFound, Key}
use Rattle.wx_index.specs.declared.known_index.KnownIndex.{KnownIndex}

abbrev pub path_key : Known → Key
path_key k = spelled k.path

abbrev pub identity_bytes : Identity → Key
identity_bytes (Canonical p) = spelled p
identity_bytes (Lexical p) = spelled p

abbrev pub identity_key : Known → Key
identity_key k = identity_bytes k.identity

-- they are found by path and by identity
abbrev pub AreKnown : List Known → KnownIndex → Type 0
AreKnown ks index = AreFound (map path_key ks) index.paths × AreFound (map identity_key ks) index.identities

-- where there is an index, they are found by it
abbrev pub AreIndexed : List Known → Option KnownIndex → Type 0
AreIndexed ks index = IfSome index (AreKnown ks)
