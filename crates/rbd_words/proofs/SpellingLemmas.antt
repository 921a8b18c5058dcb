-- The three options of a load, in any order, are read as the load.
use Rattle.std.proofs.Common.{◌≡◌, ℕ, ◌+◌, ◌<◌, ◌≤◌, true, false, List, [], ◌∷◌, ◌++◌, codes, Some, None, Ok, inl, inr, refl, sym, ap, ◌∙◌, arith}
use Rattle.std.proofs.Common.{append-nil}
use Rattle.std.specs.Prelude.{decimal, option_and_then, option_map}
use Rattle.std.specs.List.{after_first, before_first}
use Rattle.std.proofs.lemmas.Bool.{le-leb}
use Rattle.rbd_script.proofs.TokenSpelling.{number_read}
use Rattle.rbd_words.specs.declared.asked.Asked.TheVariants.{Generate}
use Rattle.rbd_words.specs.declared.load.Load.{Load}
use Rattle.rbd_words.specs.declared.options.Options.{Options}
use Rattle.rbd_words.specs.Load.{IsLoad}
use Rattle.rbd_words.specs.Spelling.{AreInAnyOrder, IsOption, SpellsLoad}
use Rattle.rbd_words.specs.Words.{asked_for_by, has_value, is_equals, load_of, no_options, number, with_option, with_words}
use Rattle.rbd_words.proofs.OptionLemmas.{next_value, own_value}

-- an option in each of its forms, and then other words: what its name is before its first `=`
option_read : (told : Options) (name : List ℕ) (n : ℕ) (o words : List (List ℕ)) → has_value name ≡ false → has_value (name ++ 61 ∷ decimal n) ≡ true
    → before_first is_equals (name ++ 61 ∷ decimal n) ≡ name → after_first is_equals (name ++ 61 ∷ decimal n) ≡ decimal n → IsOption name n o
    → with_words told (o ++ words) ≡ option_and_then (λ more. with_words more words) (with_option told name (decimal n))
option_read told name n o words alone own before after (inl is) = ap (λ ws. with_words told (ws ++ words)) is ∙ next_value told name (decimal n) words alone
option_read told name n o words alone own before after (inr is) =
    ap (λ ws. with_words told (ws ++ words)) is
    ∙ own_value told (name ++ 61 ∷ decimal n) words own
    ∙ ap (λ w. option_and_then (λ more. with_words more words) (with_option told w (after_first is_equals (name ++ 61 ∷ decimal n)))) before
    ∙ ap (λ w. option_and_then (λ more. with_words more words) (with_option told name w)) after

number_told : (n : ℕ) → n ≤ 4294967295 → number (decimal n) ≡ Ok n
number_told n small = number_read 0 4294967295 n (omega arith) small (omega arith)

behind_equals : (n at : ℕ) → at < at + 1 + n
behind_equals n at = omega arith

seed_read : (told : Options) (n : ℕ) (o words : List (List ℕ)) → n ≤ 4294967295 → told.seed ≡ None → IsOption (codes "--seed") n o
    → with_words told (o ++ words) ≡ with_words (record told { seed = Some n }) words
seed_read told n o words small new is =
    option_read told (codes "--seed") n o words refl (le-leb _ _ (omega arith)) refl refl is
    ∙ rw (new, number_told n small) refl

clients_read : (told : Options) (n : ℕ) (o words : List (List ℕ)) → n ≤ 4294967295 → told.clients ≡ None → IsOption (codes "--clients") n o
    → with_words told (o ++ words) ≡ with_words (record told { clients = Some n }) words
clients_read told n o words small new is =
    option_read told (codes "--clients") n o words refl (le-leb _ _ (omega arith)) refl refl is
    ∙ rw (new, number_told n small) refl

commands_read : (told : Options) (n : ℕ) (o words : List (List ℕ)) → n ≤ 4294967295 → told.commands ≡ None → IsOption (codes "--commands") n o
    → with_words told (o ++ words) ≡ with_words (record told { commands = Some n }) words
commands_read told n o words small new is =
    option_read told (codes "--commands") n o words refl (le-leb _ _ (omega arith)) refl refl is
    ∙ rw (new, number_told n small) refl

-- no words behind the last option
ends : (told : Options) → with_words told [] ≡ Some told
unfolding with_words
ends told = refl

module _ (load : Load) (is : IsLoad load) where
  all_read : (words : List (List ℕ)) → SpellsLoad load words → with_words no_options words ≡ Some (record { seed = Some load.seed; clients = Some load.clients; commands = Some load.commands })
  all_read words s = by s.order
    where
      seed : (told : Options) (words : List (List ℕ)) → told.seed ≡ None → with_words told (s.seed ++ words) ≡ with_words (record told { seed = Some load.seed }) words
      seed told words new = seed_read told load.seed s.seed words is.seed new s.is_seed

      clients : (told : Options) (words : List (List ℕ)) → told.clients ≡ None → with_words told (s.clients ++ words) ≡ with_words (record told { clients = Some load.clients }) words
      clients told words new = clients_read told load.clients s.clients words (omega (arith, is.few)) new s.is_clients

      commands : (told : Options) (words : List (List ℕ)) → told.commands ≡ None → with_words told (s.commands ++ words) ≡ with_words (record told { commands = Some load.commands }) words
      commands told words new = commands_read told load.commands s.commands words (omega (arith, is.commands)) new s.is_commands

      last : (told : Options) (o : List (List ℕ)) → with_words told o ≡ with_words told (o ++ [])
      last told o = ap (with_words told) (sym (append-nil o))

      by : AreInAnyOrder s.seed s.clients s.commands words → with_words no_options words ≡ Some (record { seed = Some load.seed; clients = Some load.clients; commands = Some load.commands })
      by (inl e) = ap (with_words no_options) e ∙ seed _ _ refl ∙ clients _ _ refl ∙ last _ s.commands ∙ commands _ [] refl ∙ ends _
      by (inr (inl e)) = ap (with_words no_options) e ∙ seed _ _ refl ∙ commands _ _ refl ∙ last _ s.clients ∙ clients _ [] refl ∙ ends _
      by (inr (inr (inl e))) = ap (with_words no_options) e ∙ clients _ _ refl ∙ seed _ _ refl ∙ last _ s.commands ∙ commands _ [] refl ∙ ends _
      by (inr (inr (inr (inl e)))) = ap (with_words no_options) e ∙ clients _ _ refl ∙ commands _ _ refl ∙ last _ s.seed ∙ seed _ [] refl ∙ ends _
      by (inr (inr (inr (inr (inl e))))) = ap (with_words no_options) e ∙ commands _ _ refl ∙ seed _ _ refl ∙ last _ s.clients ∙ clients _ [] refl ∙ ends _
      by (inr (inr (inr (inr (inr e))))) = ap (with_words no_options) e ∙ commands _ _ refl ∙ clients _ _ refl ∙ last _ s.seed ∙ seed _ [] refl ∙ ends _

in_range : (load : Load) → IsLoad load → load_of (record { seed = Some load.seed; clients = Some load.clients; commands = Some load.commands }) ≡ Some load
in_range load is = rw (le-leb 1 load.clients is.some, le-leb load.clients 16 is.few, le-leb load.commands 10000 is.commands) refl

pub load_spelled : (load : Load) (words : List (List ℕ)) → IsLoad load → SpellsLoad load words → asked_for_by (codes "gen" ∷ words) ≡ Some (Generate load)
load_spelled load words is s = ap (λ o. option_map Generate (option_and_then load_of o)) (all_read load is words s) ∙ ap (option_map Generate) (in_range load is)
