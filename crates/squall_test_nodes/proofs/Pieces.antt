-- Streams that are cut in two, on their way to a new feed.
use Rattle.std.specs.Prelude.{◌≡◌, ℕ, List, ◌++◌, refl}
use Rattle.std.specs.List.{AllByRecursion}
use Rattle.std.proofs.Common.{sym, ap, ◌∙◌, subst}
use Rattle.squall_wire.specs.declared.message.Message.{Message}
use Rattle.squall_wire.specs.Messages.{IsMessage, spell_all}
use Rattle.squall_wire.specs.Hearing.{new_feed}
use Rattle.squall_wire.specs.HearingLaws.{new_is_feed}
use Rattle.squall_headline.specs.Ways.{Sent, messages_of, ArePacked, AreComing}

-- the frames of what was sent, cut in two
pub cut_in_two : (ss : List Sent) (ms : List Message) (bytes front back : List ℕ) → ArePacked ss → messages_of ss ≡ ms → AllByRecursion IsMessage ms → bytes ≡ spell_all ms → bytes ≡ front ++ back → AreComing ss new_feed (front ++ back)
cut_in_two ss ms bytes front back packed sent each spelled cut = record {
  packed = packed;
  each = subst (λ (ns : List Message). AllByRecursion IsMessage ns) (sym sent) each;
  is_feed = new_is_feed;
  unended = refl;
  stream = sym cut ∙ spelled ∙ ap spell_all (sym sent);
}
