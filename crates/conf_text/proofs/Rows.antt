-- The definitions on small texts.
use Rattle.std.proofs.Common.{◌≡◌, [], ◌∷◌, ◌++◌, Some, None, refl, inr, codes}
use Rattle.conf_text.specs.declared.statement.Statement.{Statement}
use Rattle.conf_text.specs.declared.fault.TextFault.{TextFault}
use Rattle.conf_text.specs.Words.{Open, Close, Key, Value, lines, said, pieces, word_of, words_from, unreadable_from}
use Rattle.conf_text.specs.Statements.{Statements, Wrong}

-- braces touch words, a comment begins inside a word and ends at the line's end alone, a CR is a blank
pub words_row : words_from 1 (codes "a{b#c: }" ++ 13 ∷ 35 ∷ 10 ∷ 10 ∷ codes "d: e") ≡ Value 1 (codes "a") ∷ Open 1 ∷ Value 1 (codes "b") ∷ Key 3 (codes "d") ∷ Value 3 (codes "e") ∷ []
unfolding words_from lines pieces said word_of
words_row = refl

-- which words are keys
pub keys_row : words_from 1 (codes "a: b.c-1: fe80:: 1a: a_b: : a:b") ≡
    Key 1 (codes "a") ∷ Key 1 (codes "b.c-1") ∷ Value 1 (codes "fe80::") ∷ Value 1 (codes "1a:") ∷ Value 1 (codes "a_b:") ∷ Value 1 (codes ":") ∷ Value 1 (codes "a:b") ∷ []
unfolding words_from lines pieces said word_of
keys_row = refl

-- a byte outside the readable ones, but not in a comment
pub unreadable_row : unreadable_from 1 (codes "a#" ++ 255 ∷ 10 ∷ codes "b" ++ 127 ∷ []) ≡ Some 2
unfolding unreadable_from lines said
unreadable_row = refl

abbrev pub block : Statement
block = record {
  line = 2;
  key = codes "c d";
  values = [];
  block = Some (record { line = 2; key = codes "e"; values = codes "f" ∷ codes "g" ∷ [] } ∷ []);
}

-- an entry with the values of its line, and a block
pub statements_row : Statements (words_from 1 (codes "a: b" ++ 10 ∷ codes "c d{e: f" ++ 10 ∷ codes "g}")) (record { line = 1; key = codes "a"; values = codes "b" ∷ []; block = None } ∷ block ∷ []) []
unfolding words_from lines pieces said word_of
statements_row = (
  Value 2 (codes "c") ∷ Value 2 (codes "d") ∷ Open 2 ∷ Key 2 (codes "e") ∷ Value 2 (codes "f") ∷ Value 3 (codes "g") ∷ Close 3 ∷ [],
  (_, refl, (1, _, refl, refl, (refl, refl))),
  (
    [],
    (
      refl,
      record {
        at = 2;
        inside = _;
        end = 3;
        opens = record { first = codes "c"; others = codes "d" ∷ []; behind = _; begins = refl; goes_on = (2, _, refl, refl, (refl, refl)); joined = refl };
        entered = (_, (_, refl, (2, _, refl, refl, (3, _, refl, refl, (refl, refl)))), refl);
      },
    ),
    refl,
  ),
)

-- a value behind a block's `{`
pub no_colon_row : Wrong (words_from 1 (codes "a {" ++ 10 ∷ codes "b }")) (TextFault.NoColon 2)
unfolding words_from lines pieces said word_of
no_colon_row = inr (1, codes "a", 1, Value 2 (codes "b") ∷ Close 2 ∷ [], record { first = codes "a"; others = []; behind = _; begins = refl; goes_on = (refl, refl); joined = refl }, (codes "b", Close 2 ∷ [], refl))

-- a `{` in a block, behind an entry whose values are the words before it
pub stray_brace_row : Wrong (words_from 1 (codes "a { b: c" ++ 10 ∷ codes "d { }")) (TextFault.StrayBrace 2)
unfolding words_from lines pieces said word_of
stray_brace_row =
    inr (
      1,
      codes "a",
      1,
      _,
      record { first = codes "a"; others = []; behind = _; begins = refl; goes_on = (refl, refl); joined = refl },
      (record { line = 1; key = codes "b"; values = codes "c" ∷ codes "d" ∷ [] } ∷ [], Close 2 ∷ [], (_, (_, refl, (1, _, refl, refl, (2, _, refl, refl, (refl, refl)))), refl)),
    )
