-- SMT-LIB 2.6, section 4.2.6: the model that an answer to `get-model` prints. The order of the faults, and
-- that a model may begin with the symbol `model`, are this project's rules.
use Rattle.std.specs.Prelude.{◌≡◌, ℕ, zero, suc, ◌+◌, List, [], ◌∷◌, ◌++◌, true, slice_get, take, Option}
use Rattle.std.specs.Prelude.{Some, None, is_some, Result, Ok, Err, codes, if◌then◌else◌}
use Rattle.std.specs.Option.{option_or}
use Rattle.smt_trees.specs.Sexp.{Sexps, Nil, Cons, is_symbol}
use Rattle.smt_theory.specs.Words.{result_and_then}
use Rattle.smt_terms.specs.Items.{item_in, items_before, list_of}
use Rattle.smt_terms.specs.Signature.{Entry, Origin, Declared, Defined, IsDeclared, Signature, entry_named}
use Rattle.smt_faults.specs.declared.term_flaw.TermFlaw.{TermFlaw}
use Rattle.smt_eval.specs.declared.model_fault.ModelFlaw.{ModelFlaw}
use Rattle.smt_eval.specs.declared.model_fault.ModelFlaw.TheVariants.{Item, Lacks}

-- what comes of an item, or its flaw with its number
abbrev pub or_item : {A : Type 0} → ℕ → Result (Option Entry) TermFlaw → (Option Entry → Result A ModelFlaw)
    → Result A ModelFlaw
or_item number (Ok o) next = next o
or_item number (Err flaw) next = Err (Item number flaw)

-- what the items define, behind what came before; or the first item with a flaw, the first of them having
-- this number
abbrev pub items_from : Signature → List Entry → ℕ → Sexps → Result (List Entry) ModelFlaw
items_from script earlier number Nil = Ok earlier
items_from script earlier number (Cons x xs) =
    or_item number (item_in script earlier x)
    (λ o. items_from script (earlier ++ list_of o) (number + 1) xs)

-- the items: the leading symbol `model` is none
abbrev pub items_of : Sexps → Sexps
items_of Nil = Nil
items_of (Cons tree rest) = if is_symbol (codes "model") tree then rest else Cons tree rest

-- the command of a declaration
abbrev pub command_of_origin : Origin → Option ℕ
command_of_origin (Declared command) = Some command
command_of_origin (Defined parameters body) = None

-- the command of a declared name, if no item defines it
abbrev pub lacking_at : List Entry → Entry → Option ℕ
lacking_at items e = if is_some (entry_named items e.name) then None else command_of_origin e.origin

-- the command of the first declared name that no item defines
abbrev pub first_lacking : List Entry → List Entry → Option ℕ
first_lacking [] items = None
first_lacking (e ∷ es) items = option_or (lacking_at items e) (first_lacking es items)

-- the items as definitions over the script's theories, unless a name is lacking
abbrev pub complete_or : Option ℕ → Signature → Result Signature ModelFlaw
complete_or None definitions = Ok definitions
complete_or (Some command) definitions = Err (Lacks command)

-- the definitions of a model of the script's declared names, over the script's theories; or the model's first
-- flaw: that of an item, or else a name that is lacking
abbrev pub model_in : Signature → Sexps → Result Signature ModelFlaw
model_in script parts =
    result_and_then (items_from script [] 1 (items_of parts))
    (λ items. complete_or (first_lacking script.entries items) (items_before script items))

-- ---- what a model is, item by item

-- the trees are items of a model of the script's names behind earlier ones, and these are the definitions of
-- those that are not set aside, in order
abbrev pub AreItems : Signature → List Entry → Sexps → List Entry → Type 0
AreItems script earlier Nil es = es ≡ []
AreItems script earlier (Cons x xs) es =
    (o : Option Entry) × (rest : List Entry) × (item_in script earlier x ≡ Ok o) × (es ≡ list_of o ++ rest)
    × AreItems script (earlier ++ list_of o) xs rest

-- each entry that a command declared is defined by an item
abbrev pub AreDefined : List Entry → List Entry → Type 0
AreDefined entries items = (place : ℕ) (e : Entry) → slice_get entries place ≡ Some e → IsDeclared e.origin
    → is_some (entry_named items e.name) ≡ true

-- the tree behind so many others that are items has this flaw, and is the first that has one
abbrev pub HasFirstFlaw : Signature → List Entry → Sexps → ℕ → TermFlaw → Type 0
HasFirstFlaw script earlier Nil n flaw = ⊥
HasFirstFlaw script earlier (Cons x xs) zero flaw = item_in script earlier x ≡ Err flaw
HasFirstFlaw script earlier (Cons x xs) (suc n) flaw =
    (o : Option Entry) × (item_in script earlier x ≡ Ok o)
    × HasFirstFlaw script (earlier ++ list_of o) xs n flaw

-- the first entry that a command declared and no item defines is of this command
pub record IsFirstLacking (entries items : List Entry) (command : ℕ) : Type 0 where
  pub place : ℕ
  pub entry : Entry
  pub at : slice_get entries place ≡ Some entry
  pub origin : entry.origin ≡ Declared command
  pub lacking : entry_named items entry.name ≡ None
  pub first : AreDefined (take place entries) items
