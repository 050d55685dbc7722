-- The reserved words and their spellings.
use Rattle.std.proofs.Common.{◌≡◌, ◌≢◌, ℕ, List, [], ◌∷◌, Option, Some, None, Bool, true, false, ◌+◌, ◌<◌}
use Rattle.std.proofs.Common.{◌≤◌, length, drop, get_or, refl, sym, ap, ◌∙◌}
use Rattle.std.proofs.lemmas.List.{drop_all, drop_more}
use Rattle.std.specs.List.{slice_get}
use Rattle.std.specs.Str.{bytes_eq}
use Rattle.std.proofs.lemmas.Slice.Eq.{bytes_eq-Decides}
use Rattle.smt_text.specs.Internal.LexerStates.{find_word, word_named, words_like}
use Rattle.smt_trees.specs.Reserved.{all_words, spelling_of}
use Rattle.smt_trees.specs.declared.reserved.Word.{Word}
use Rattle.smt_trees.specs.declared.reserved.Word.TheVariants.{Bang, Underscore, As, Binary, Decimal, Exists}
use Rattle.smt_trees.specs.declared.reserved.Word.TheVariants.{Hexadecimal, Forall, Let, Match, Numeral, Par}
use Rattle.smt_trees.specs.declared.reserved.Word.TheVariants.{String, Assert, CheckSat, CheckSatAssuming}
use Rattle.smt_trees.specs.declared.reserved.Word.TheVariants.{DeclareConst, DeclareDatatype}
use Rattle.smt_trees.specs.declared.reserved.Word.TheVariants.{DeclareDatatypes, DeclareFun, DeclareSort}
use Rattle.smt_trees.specs.declared.reserved.Word.TheVariants.{DefineFun, DefineFunRec, DefineFunsRec}
use Rattle.smt_trees.specs.declared.reserved.Word.TheVariants.{DefineSort, Echo, Exit, GetAssertions}
use Rattle.smt_trees.specs.declared.reserved.Word.TheVariants.{GetAssignment, GetInfo, GetModel, GetOption}
use Rattle.smt_trees.specs.declared.reserved.Word.TheVariants.{GetProof, GetUnsatAssumptions, GetUnsatCore}
use Rattle.smt_trees.specs.declared.reserved.Word.TheVariants.{GetValue, Pop, Push, Reset, ResetAssertions}
use Rattle.smt_trees.specs.declared.reserved.Word.TheVariants.{SetInfo, SetLogic, SetOption}

-- no two reserved words are written alike
pub word_named-spelling : (word : Word) → word_named (spelling_of word) ≡ Some word
word_named-spelling Bang = refl
word_named-spelling Underscore = refl
word_named-spelling As = refl
word_named-spelling Binary = refl
word_named-spelling Decimal = refl
word_named-spelling Exists = refl
word_named-spelling Hexadecimal = refl
word_named-spelling Forall = refl
word_named-spelling Let = refl
word_named-spelling Match = refl
word_named-spelling Numeral = refl
word_named-spelling Par = refl
word_named-spelling String = refl
word_named-spelling Assert = refl
word_named-spelling CheckSat = refl
word_named-spelling CheckSatAssuming = refl
word_named-spelling DeclareConst = refl
word_named-spelling DeclareDatatype = refl
word_named-spelling DeclareDatatypes = refl
word_named-spelling DeclareFun = refl
word_named-spelling DeclareSort = refl
word_named-spelling DefineFun = refl
word_named-spelling DefineFunRec = refl
word_named-spelling DefineFunsRec = refl
word_named-spelling DefineSort = refl
word_named-spelling Echo = refl
word_named-spelling Exit = refl
word_named-spelling GetAssertions = refl
word_named-spelling GetAssignment = refl
word_named-spelling GetInfo = refl
word_named-spelling GetModel = refl
word_named-spelling GetOption = refl
word_named-spelling GetProof = refl
word_named-spelling GetUnsatAssumptions = refl
word_named-spelling GetUnsatCore = refl
word_named-spelling GetValue = refl
word_named-spelling Pop = refl
word_named-spelling Push = refl
word_named-spelling Reset = refl
word_named-spelling ResetAssertions = refl
word_named-spelling SetInfo = refl
word_named-spelling SetLogic = refl
word_named-spelling SetOption = refl

-- what is found is written so
found_by : (t : Bool) (bytes : List ℕ) (w : Word) (words : List Word) (word : Word)
    → bytes_eq (spelling_of w) bytes ≡ t → (find_word bytes words ≡ Some word → bytes ≡ spelling_of word)
    → find_word bytes (w ∷ words) ≡ Some word → bytes ≡ spelling_of word
found_by true bytes w words word h later e =
    let same = (bytes_eq-Decides (spelling_of w) bytes).0 h in
    let found : find_word bytes (w ∷ words) ≡ Some w = rw h refl in
    cc
found_by false bytes w words word h later e =
    let next : find_word bytes (w ∷ words) ≡ find_word bytes words = rw h refl in
    later (sym next ∙ e)

pub find_word-some : (bytes : List ℕ) (words : List Word) (word : Word) → find_word bytes words ≡ Some word
    → bytes ≡ spelling_of word
find_word-some bytes [] word e = cc
find_word-some bytes (w ∷ words) word e =
    found_by (bytes_eq (spelling_of w) bytes) bytes w words word refl (find_word-some bytes words word) e

-- what is not found is no reserved word
pub word_named-none : (bytes : List ℕ) → word_named bytes ≡ None → (word : Word) → bytes ≢ spelling_of word
word_named-none bytes e word is =
    let found : word_named bytes ≡ Some word = ap word_named is ∙ word_named-spelling word in
    cc

-- a word that is written otherwise is passed
pub find_word-more : (bytes : List ℕ) (words : List Word) (i : ℕ) (d : Word) (written : List ℕ)
    → i < length words → written ≡ spelling_of (get_or words i d) → bytes_eq written bytes ≡ false
    → find_word bytes (drop (i + 1) words) ≡ find_word bytes (drop i words)
find_word-more bytes words i d written within is h =
    let w = get_or words i d in
    let other : bytes_eq (spelling_of w) bytes ≡ false = ap (λ x. bytes_eq x bytes) (sym is) ∙ h in
    let next : find_word bytes (w ∷ drop (i + 1) words) ≡ find_word bytes (drop (i + 1) words) = rw other refl
    in
    sym next ∙ ap (find_word bytes) (sym (drop_more words i d within))

-- none is found behind the last
pub find_word-end : (bytes : List ℕ) (words : List Word) (i : ℕ) → length words ≤ i
    → None ≡ find_word bytes (drop i words)
find_word-end bytes words i h = sym (ap (find_word bytes) (drop_all i words h))

-- each reserved word is among those like it
abbrev pub first_of : List ℕ → ℕ
first_of [] = 0
first_of (b ∷ bs) = b

found_by_first : (word : Word)
    → find_word (spelling_of word) (words_like (length (spelling_of word)) (first_of (spelling_of word)))
    ≡ Some word
found_by_first Bang = refl
found_by_first Underscore = refl
found_by_first As = refl
found_by_first Binary = refl
found_by_first Decimal = refl
found_by_first Exists = refl
found_by_first Hexadecimal = refl
found_by_first Forall = refl
found_by_first Let = refl
found_by_first Match = refl
found_by_first Numeral = refl
found_by_first Par = refl
found_by_first String = refl
found_by_first Assert = refl
found_by_first CheckSat = refl
found_by_first CheckSatAssuming = refl
found_by_first DeclareConst = refl
found_by_first DeclareDatatype = refl
found_by_first DeclareDatatypes = refl
found_by_first DeclareFun = refl
found_by_first DeclareSort = refl
found_by_first DefineFun = refl
found_by_first DefineFunRec = refl
found_by_first DefineFunsRec = refl
found_by_first DefineSort = refl
found_by_first Echo = refl
found_by_first Exit = refl
found_by_first GetAssertions = refl
found_by_first GetAssignment = refl
found_by_first GetInfo = refl
found_by_first GetModel = refl
found_by_first GetOption = refl
found_by_first GetProof = refl
found_by_first GetUnsatAssumptions = refl
found_by_first GetUnsatCore = refl
found_by_first GetValue = refl
found_by_first Pop = refl
found_by_first Push = refl
found_by_first Reset = refl
found_by_first ResetAssertions = refl
found_by_first SetInfo = refl
found_by_first SetLogic = refl
found_by_first SetOption = refl

-- a word is found among those like it as it is among all
pub find_word-like : (bytes : List ℕ)
    → find_word bytes (words_like (length bytes) (first_of bytes)) ≡ word_named bytes
find_word-like bytes =
    by (word_named bytes) refl (find_word bytes (words_like (length bytes) (first_of bytes))) refl where
      by : (all : Option Word) → word_named bytes ≡ all → (some : Option Word)
          → find_word bytes (words_like (length bytes) (first_of bytes)) ≡ some
          → find_word bytes (words_like (length bytes) (first_of bytes)) ≡ word_named bytes
      by (Some word) e some h = ap (λ b. find_word b (words_like (length b) (first_of b)))
          (find_word-some bytes all_words word e) ∙ found_by_first word ∙ sym e
      by None e None h = h ∙ sym e
      by None e (Some word) h = absurd
          (word_named-none bytes e word
          (find_word-some bytes (words_like (length bytes) (first_of bytes)) word h))

pub first-got : (bytes : List ℕ) (b : ℕ) → Some b ≡ slice_get bytes 0 → b ≡ first_of bytes
first-got [] b e = absurd (cc)
first-got (c ∷ bytes) b e = cc
