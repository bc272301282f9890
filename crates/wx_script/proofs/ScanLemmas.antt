-- A scan of lines goes on, stops or ends.
use Rattle.std.proofs.Common.{◌≡◌, ℕ, ◌+◌, ◌<◌, Option, None, Some, List, [], ◌∷◌, ◌++◌, length, length-append, append_assoc, refl, sym, ap, ◌∙◌, arith, inl, inr}
use Rattle.wx_words.specs.Line.{parts, ◌>>=◌}
use Rattle.wx_words.specs.LineLaws.{some_part}
use Rattle.wx_words.specs.OptionLaws.{bind_some}
use Rattle.wx_script.specs.declared.script.Script.{Script}
use Rattle.wx_script.specs.Scripts.{start, step, begun_by, IsScriptOf, IsFirstBad}

-- the lines before the rest made this script
pub record Begun (bytes rest : List ℕ) (n : ℕ) (s : Script) : Type 0 where
  pub before : List (List ℕ)
  pub number : n ≡ length before + 1
  pub all : parts 10 bytes ≡ before ++ parts 10 rest
  pub made : begun_by before start ≡ Some s

pub begins : (bytes : List ℕ) → Begun bytes bytes 1 start
begins bytes = record { before = []; number = refl; all = refl; made = refl }

begun_more : (lines : List (List ℕ)) (line : List ℕ) (s t u : Script) → begun_by lines s ≡ Some t → step t line ≡ Some u → begun_by (lines ++ line ∷ []) s ≡ Some u
begun_more [] line s t u e more = let here : s ≡ t = cc in rw (here, more) refl
begun_more (x ∷ lines) line s t u e more =
    let next = bind_some (step s x) (begun_by lines) t e in
    ap (λ (o : Option Script). o >>= begun_by (lines ++ line ∷ [])) next.1 ∙ begun_more lines line next.0 t u next.2 more

pub goes_on : (bytes rest line after : List ℕ) (n : ℕ) (s t : Script) → Begun bytes rest n s → parts 10 rest ≡ line ∷ parts 10 after → step s line ≡ Some t → Begun bytes after (n + 1) t
goes_on bytes rest line after n s t b cut e = record {
  before = b.before ++ line ∷ [];
  number = omega (arith, b.number, length-append b.before (line ∷ []));
  all = b.all ∙ ap (λ (ps : List (List ℕ)). b.before ++ ps) cut ∙ sym (append_assoc b.before (line ∷ []) (parts 10 after));
  made = begun_more b.before line start s t b.made e;
}

pub stops : (bytes rest line after : List ℕ) (n : ℕ) (s : Script) → Begun bytes rest n s → parts 10 rest ≡ line ∷ parts 10 after → step s line ≡ None → IsFirstBad bytes n
stops bytes rest line after n s b cut e = record {
  before = b.before;
  line = line;
  later = parts 10 after;
  number = b.number;
  all = b.all ∙ ap (λ (ps : List (List ℕ)). b.before ++ ps) cut;
  script = s;
  begun = b.made;
  stuck = inl (some_part 10 after, e);
}

pub ends : (bytes rest : List ℕ) (n : ℕ) (s : Script) → Begun bytes rest n s → parts 10 rest ≡ rest ∷ [] → length rest ≡ 0 → IsScriptOf bytes s
ends bytes [] n s b cut e = record { lines = b.before; all = b.all; made = b.made }
ends bytes (x ∷ rest) n s b cut e = absurd (omega arith)

pub unfinished : (bytes rest : List ℕ) (n : ℕ) (s : Script) → Begun bytes rest n s → parts 10 rest ≡ rest ∷ [] → 0 < length rest → IsFirstBad bytes n
unfinished bytes rest n s b cut some = record {
  before = b.before;
  line = rest;
  later = [];
  number = b.number;
  all = b.all ∙ ap (λ (ps : List (List ℕ)). b.before ++ ps) cut;
  script = s;
  begun = b.made;
  stuck = inr (refl, some);
}
