-- What is read of a text that may still go on, and which fault a text has. These are this project's rules.
use Rattle.std.specs.Prelude.{◌≡◌, ◌⊎◌, ◌≤◌, ℕ, List, [], ◌∷◌, ◌++◌, length, Bool, true, false, Option, Some}
use Rattle.std.specs.Prelude.{None}
use Rattle.smt_text.specs.Grammar.{Forest, Token, CloseParenthesis, AtomToken, IsSpelling, IsTextThen, barred}
use Rattle.smt_text.specs.Grammar.{tokens_of_all}
use Rattle.smt_text.specs.Lexical.{ends_token}
use Rattle.smt_trees.specs.Sexp.{Sexps, append, Symbol}
use Rattle.smt_faults.specs.declared.text_flaw.TextFlaw.{TextFlaw}
use Rattle.smt_faults.specs.declared.text_flaw.TextFlaw.TheVariants.{Byte, Deep, End}

-- some text of trees begins so
abbrev pub Begins : ℕ → List ℕ → Type 0
Begins max_depth prefix = (more : List ℕ) × (trees : Sexps) × Forest max_depth (prefix ++ more) trees

-- the text has trees
abbrev pub IsForest : ℕ → List ℕ → Type 0
IsForest max_depth text = (trees : Sexps) × Forest max_depth text trees

-- the longest prefix of the text that begins some text of trees, and what follows it
pub record LongestPrefix (max_depth : ℕ) (text prefix rest : List ℕ) : Type 0 where
  pub parts : text ≡ prefix ++ rest
  pub begins : Begins max_depth prefix
  pub longest : (longer other : List ℕ) → text ≡ longer ++ other → Begins max_depth longer
      → length longer ≤ length prefix

-- a token that shows its end itself: a closing parenthesis, or a symbol in bars
abbrev pub IsClosed : Token → List ℕ → Type 0
IsClosed CloseParenthesis spelled = Unit {0}
IsClosed (AtomToken Symbol name) spelled = spelled ≡ barred name
IsClosed _ spelled = ⊥

-- the text ends with the last of the tokens, which shows its end itself
abbrev pub EndsClosed : List Token → List ℕ → Type 0
EndsClosed tokens text =
    (before : List Token) × (last : Token) × (tokens ≡ before ++ last ∷ [])
    × IsTextThen (λ spelled. IsSpelling last spelled × IsClosed last spelled) before text

-- a byte follows that shows the end of the token before it
abbrev pub IsFollowed : List ℕ → Type 0
IsFollowed rest = (b : ℕ) × (bs : List ℕ) × (rest ≡ b ∷ bs) × (ends_token b ≡ true)

-- these are the trees of a beginning of the prefix that is empty, ends with a list or a quoted symbol, or is
-- followed by white space, a comment or a parenthesis: so the last of them is complete, whatever comes
pub record AreSettled (max_depth : ℕ) (prefix : List ℕ) (trees : Sexps) : Type 0 where
  pub beginning : List ℕ
  pub rest : List ℕ
  pub parts : prefix ≡ beginning ++ rest
  pub forest : Forest max_depth beginning trees
  pub settled : (beginning ≡ []) ⊎ (EndsClosed (tokens_of_all trees []) beginning ⊎ IsFollowed rest)

-- the complete trees of a prefix: those of its longest such beginning
pub record AreComplete (max_depth : ℕ) (prefix : List ℕ) (trees : Sexps) : Type 0 where
  pub settled : AreSettled max_depth prefix trees
  pub most : (others : Sexps) → AreSettled max_depth prefix others
      → (later : Sexps) × (trees ≡ append others later)

-- which fault a text has that is none of trees
--     End      it might have gone on, and ends inside a list or a token
--     Deep     with the byte at this place, the text might go on if lists could be of any depth
--     Byte     with the byte at this place, it is the beginning of no text
abbrev pub HasFault : ℕ → List ℕ → TextFlaw → Type 0
HasFault max_depth text (End place) = (place ≡ length text) × Begins max_depth text × (IsForest max_depth text → ⊥)
HasFault max_depth text (Deep place) =
    (prefix : List ℕ) × (b : ℕ) × (rest : List ℕ) × (place ≡ length prefix)
    × LongestPrefix max_depth text prefix (b ∷ rest) × ((depth : ℕ) × Begins depth (prefix ++ b ∷ []))
HasFault max_depth text (Byte place) =
    (prefix : List ℕ) × (b : ℕ) × (rest : List ℕ) × (place ≡ length prefix)
    × LongestPrefix max_depth text prefix (b ∷ rest) × (((depth : ℕ) × Begins depth (prefix ++ b ∷ [])) → ⊥)

-- a text that ends inside a list or a token has this fault only once its end was told
abbrev pub IsTold : Bool → TextFlaw → Type 0
IsTold ended (End place) = ended ≡ true
IsTold ended (Byte place) = Unit {0}
IsTold ended (Deep place) = Unit {0}

-- what is read of the text: the trees, and the fault after them, if there is one. `ended` says that no more
-- of the text comes
abbrev pub Reads : ℕ → Bool → List ℕ → Sexps → Option TextFlaw → Type 0
Reads max_depth true text trees None = Forest max_depth text trees
Reads max_depth false text trees None = Begins max_depth text × AreComplete max_depth text trees
Reads max_depth ended text trees (Some fault) =
    HasFault max_depth text fault × IsTold ended fault
    × ((prefix rest : List ℕ) × LongestPrefix max_depth text prefix rest × AreComplete max_depth prefix trees)
