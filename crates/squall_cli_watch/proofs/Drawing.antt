-- What is drawn from read to read.
use Rattle.std.proofs.Common.{◌≡◌, ◌≢◌, ◌⊎◌, inl, inr, ℕ, ◌≤◌, List, [], ◌∷◌, ◌++◌, length, map, Bool, true, false, Option, None, Some, Result, Ok, Err, sym, ◌∙◌, ap, subst, refl}
use Rattle.std.proofs.lemmas.Bool.{false≢true}
use Rattle.std.proofs.lemmas.List.{append_assoc, append-nil, map-append}
use Rattle.std.proofs.lemmas.List.Elements.{All-append, All-cons, All-nil}
use Rattle.std.proofs.lemmas.Grind.{flat_map-append}
use Rattle.std.proofs.KnownBytes.{Appends-nil, Consumes-nil, Consumes-trans, Consumes-kept}
use Rattle.std.specs.Prelude.{All}
use Rattle.std.specs.List.{concat}
use Rattle.std.specs.Io.KnownBytes.{Consumes, Keeps}
use Rattle.squall_course.specs.Change.{Change}
use Rattle.squall_board.specs.Boards.{BoardValue}
use Rattle.squall_wire.specs.declared.fault.WireFault.{WireFault}
use Rattle.squall_wire.specs.declared.message.Message.{Message}
use Rattle.squall_wire.specs.Messages.{Body, body_of}
use Rattle.squall_wire.specs.Hearing.{IsHeard}
use Rattle.squall_wire.specs.Heard.{HeardValue, heard_of}
use Rattle.squall_wire.specs.HeardLaws.{heard_is}
use Rattle.squall_wire.specs.HearingLaws.{pieces_are_one_stream}
use Rattle.squall_wire.specs.ReadingLaws.{nothing_is_short}
use Rattle.squall_cli_device.specs.States.{SinkState, OutputFails}
use Rattle.squall_cli_lines.specs.declared.RunFault.{RunFault}
use Rattle.squall_cli_lines.specs.declared.RunFault.TheVariants.{Read, Write, NoMemory}
use Rattle.squall_cli_lines.proofs.RunningLemmas.{concat-append}
use Rattle.squall_cli_watch.specs.Bars.{redrawn, later_bars}
use Rattle.squall_cli_watch.specs.BarLines.{LineValue, IsDrawn, Adds, Ends}
use Rattle.squall_cli_watch.proofs.BarLines.{drawn_then, drawn_ended}
use Rattle.squall_cli_command.specs.declared.stream.WatchAsk.{WatchAsk}
use Rattle.squall_cli_watch.specs.declared.ending.WatchEnd.{WatchEnd}
use Rattle.squall_cli_watch.specs.declared.ending.Next.{Next}
use Rattle.squall_cli_watch.specs.declared.ending.Next.TheVariants.{On, End}
use Rattle.squall_cli_watch.specs.Drawn.{AreJoined, IsNewestBar, IsBarAfter, AreDrawn}
use Rattle.squall_cli_watch.specs.Drawing.{JoinsFrames, JoinsBytes, JoinsPiece, IsToDraw, Replaces, ShowsOne, ShowsIfOn, ShowsPiece, DrawsAfter, DrawsOn}

-- ---- boards

-- the board that frames make of another
pub joins_all : (flow : Next) (old new : List Body → BoardValue → Type 0) (b : BoardValue) (bodies : List Body) (fault : Option WireFault) → new [] b → JoinsFrames flow old new b bodies fault → old bodies b
joins_all On old new b bodies fault here j = subst (λ w. old w b) (append-nil bodies) (j.1 [] b here)
joins_all (End end) old new b bodies fault here j = j

-- these bytes were read, and what frames to come make now, they make of the old board behind those; these bytes wait
pub record IsReadTo (old now : List Body → BoardValue → Type 0) (read waiting : List ℕ) : Type 0 where
  pub messages : List Message
  pub heard : IsHeard read messages None waiting
  pub made : (more : List Body) (b : BoardValue) → now more b → old (map body_of messages ++ more) b

pub read_nothing : (old : List Body → BoardValue → Type 0) → IsReadTo old old [] []
read_nothing old = record { messages = []; heard = record { each = tt; frames = refl; ends = nothing_is_short }; made = λ more b p. p }

module _ (old now next : List Body → BoardValue → Type 0) (b : BoardValue) (read waiting piece left : List ℕ) (r : IsReadTo old now read waiting) (ms : List Message) (fault : Option WireFault)
    (heard : IsHeard (waiting ++ piece) ms fault left) where
  bodies_are : map body_of (r.messages ++ ms) ≡ map body_of r.messages ++ map body_of ms
  bodies_are = map-append body_of r.messages ms

  -- the board after one piece more
  pub board_after : now (map body_of ms) b → old ((heard_of (read ++ piece)).bodies) b
  board_after j =
      subst (λ (h : HeardValue). old h.bodies b) (sym (heard_is (read ++ piece) (r.messages ++ ms) fault left (pieces_are_one_stream read piece r.messages ms None fault waiting left r.heard heard)))
      (subst (λ w. old w b) (sym bodies_are) (r.made (map body_of ms) b j))

  pub read_more : fault ≡ None → ((more : List Body) (e : BoardValue) → next more e → now (map body_of ms ++ more) e) → IsReadTo old next (read ++ piece) left
  read_more none j = record {
    messages = r.messages ++ ms;
    heard = subst (λ f. IsHeard (read ++ piece) (r.messages ++ ms) f left) none (pieces_are_one_stream read piece r.messages ms None fault waiting left r.heard heard);
    made = λ more e p.
        subst (λ w. old (w ++ more) e) (sym bodies_are)
        (subst (λ w. old w e) (sym (append_assoc (map body_of r.messages) (map body_of ms) more)) (r.made (map body_of ms ++ more) e (j more e p)));
  }

-- ---- bars

-- so many bars were drawn for these blocks: whatever is drawn for more blocks comes after them
abbrev pub Drawn : WatchAsk → Change → BoardValue → List ℕ → List (List ℕ) → List ℕ → List (List ℕ) → Type 0
Drawn how first b shown0 blocks shown bars =
    (more : List (List ℕ)) (rest : List (List ℕ)) → AreDrawn how first b (concat blocks) shown more rest → AreDrawn how first b [] shown0 (blocks ++ more) (bars ++ rest)

module _ (how : WatchAsk) (first : Change) (b : BoardValue) (shown0 : List ℕ) (blocks : List (List ℕ)) (shown : List ℕ) (bars : List (List ℕ)) (d : Drawn how first b shown0 blocks shown bars) where
  pub drawn_so_far : AreDrawn how first b [] shown0 blocks bars
  drawn_so_far = subst (λ w. AreDrawn how first b [] shown0 w bars) (append-nil blocks) (subst (AreDrawn how first b [] shown0 (blocks ++ [])) (append-nil bars) (d [] [] refl))

  module _ (block bar : List ℕ) (is : IsBarAfter how first b (concat blocks ++ block) bar) where
    read_is : concat (blocks ++ block ∷ []) ≡ concat blocks ++ block
    read_is = concat-append blocks (block ∷ []) ∙ ap (λ w. concat blocks ++ w) (append-nil block)

    -- a bar more
    pub drawn_more : Drawn how first b shown0 (blocks ++ block ∷ []) bar (bars ++ bar ∷ [])
    drawn_more = λ more rest p.
        subst (λ w. AreDrawn how first b [] shown0 w ((bars ++ bar ∷ []) ++ rest)) (sym (append_assoc blocks (block ∷ []) more))
        (subst (AreDrawn how first b [] shown0 (blocks ++ block ∷ more)) (sym (append_assoc bars (bar ∷ []) rest))
        (d (block ∷ more) (bar ∷ rest) (bar, rest, is, subst (λ w. AreDrawn how first b w bar more rest) read_is p, inl refl)))

    -- the bar is shown already
    pub drawn_same : bar ≡ shown → Drawn how first b shown0 (blocks ++ block ∷ []) shown bars
    drawn_same same = λ more rest p.
        subst (λ w. AreDrawn how first b [] shown0 w (bars ++ rest)) (sym (append_assoc blocks (block ∷ []) more))
        (d (block ∷ more) rest (bar, rest, is, subst (λ w. AreDrawn how first b w bar more rest) read_is (subst (λ w. AreDrawn how first b (concat (blocks ++ block ∷ [])) w more rest) (sym same) p), inr (same, refl)))

-- what holds between two reads: bars were drawn for blocks, and if the line is still drawn on these are all that was read
pub record Drawing (how : WatchAsk) (first : Change) (b : BoardValue) (now : List Body → BoardValue → Type 0) (shown0 : List ℕ) (before after : Option (List ℕ)) (err err' : SinkState) (line : LineValue) (waiting : List ℕ) : Type 0 where
  pub blocks : List (List ℕ)
  pub since : List ℕ
  pub bars : List (List ℕ)
  pub read : Consumes before after (concat blocks ++ since)
  pub small : All (λ block. length block ≤ 65536) blocks
  pub took : IsDrawn line.on err err' (later_bars bars)
  pub drawn : AreDrawn how first b [] shown0 blocks bars
  pub whole : line.on ≡ true → since ≡ []
  pub goes : line.on ≡ true → IsReadTo (AreJoined how first b) now (concat blocks) waiting × Drawn how first b shown0 blocks line.shown bars

pub drawing_start : (how : WatchAsk) (first : Change) (b : BoardValue) (before : Option (List ℕ)) (err : SinkState) (line : LineValue) → line.on ≡ true
    → Drawing how first b (AreJoined how first b) line.shown before before err err line []
drawing_start how first b before err line on = record {
  blocks = [];
  since = [];
  bars = [];
  read = Consumes-nil before;
  small = All-nil (λ block. length block ≤ 65536);
  took = subst (λ t. IsDrawn t err err []) (sym on) (Appends-nil err.contents, (refl, refl));
  drawn = refl;
  whole = λ e. refl;
  goes = λ e. (read_nothing (AreJoined how first b), λ more rest p. p);
}

-- the same once no more is drawn, and the line may be ended
pub record Closed (how : WatchAsk) (first : Change) (b : BoardValue) (shown0 : List ℕ) (before after : Option (List ℕ)) (err err' : SinkState) (on : Bool) : Type 0 where
  pub blocks : List (List ℕ)
  pub since : List ℕ
  pub bars : List (List ℕ)
  pub read : Consumes before after (concat blocks ++ since)
  pub small : All (λ block. length block ≤ 65536) blocks
  pub took : IsDrawn on err err' (later_bars bars)
  pub drawn : AreDrawn how first b [] shown0 blocks bars
  pub whole : on ≡ true → since ≡ []

fails_by : (on : Bool) (a e e' : SinkState) (text : List ℕ) (since : List ℕ) (P : Type 0) → IsDrawn on a e text → Ends on e e' → (on ≡ true → since ≡ []) → (since ≡ []) ⊎ (P ⊎ OutputFails a e')
fails_by true a e e' text since P took ends whole = inl (whole refl)
fails_by false a e e' text since P took ends whole = inr (inr (subst (OutputFails a) (sym ends) took.3))

module _ (how : WatchAsk) (first : Change) (b : BoardValue) (shown0 : List ℕ) (result : Result WatchEnd RunFault) (before after : Option (List ℕ)) (err err' : SinkState) where
  pub draws_on : (on : Bool) → Closed how first b shown0 before after err err' on → DrawsOn how first b shown0 result before after err err' on
  draws_on on c = λ last ends. record {
    blocks = c.blocks;
    rest = c.since;
    bars = c.bars;
    read = c.read;
    small = c.small;
    drawn = c.drawn;
    said = drawn_ended on err err' last (later_bars c.bars) c.took ends;
    whole = fails_by on err err' last (later_bars c.bars) c.since (result ≡ Err NoMemory) c.took ends c.whole;
  }

  -- the line was ended
  pub draws_ended : (on on' : Bool) (last : SinkState) → DrawsOn how first b shown0 result before after err err' on → Ends on err' last → on' ≡ false → DrawsOn how first b shown0 result before after err last on'
  draws_ended on on' last d ends off = subst (DrawsOn how first b shown0 result before after err last) (sym off) (λ e same. subst (DrawsAfter how first b shown0 result before after err) (sym same) (d last ends))

module _ (how : WatchAsk) (first : Change) (b : BoardValue) (now : List Body → BoardValue → Type 0) (shown0 : List ℕ) (before after : Option (List ℕ)) (err err' : SinkState) (line : LineValue) (waiting : List ℕ)
    (d : Drawing how first b now shown0 before after err err' line waiting) where
  pub closed_now : Closed how first b shown0 before after err err' line.on
  closed_now = record { blocks = d.blocks; since = d.since; bars = d.bars; read = d.read; small = d.small; took = d.took; drawn = d.drawn; whole = d.whole }

  -- a read failed
  pub closed_read : (after' : Option (List ℕ)) → Keeps after after' → Closed how first b shown0 before after' err err' line.on
  closed_read after' keeps = record {
    blocks = d.blocks;
    since = d.since;
    bars = d.bars;
    read = Consumes-kept before after after' (concat d.blocks ++ d.since) d.read keeps;
    small = d.small;
    took = d.took;
    drawn = d.drawn;
    whole = d.whole;
  }

  -- a read found the end
  pub closed_last : (after' : Option (List ℕ)) → Consumes after after' [] → Closed how first b shown0 before after' err err' line.on
  closed_last after' none = record {
    blocks = d.blocks;
    since = d.since;
    bars = d.bars;
    read = subst (Consumes before after') (append-nil (concat d.blocks ++ d.since)) (Consumes-trans before after after' (concat d.blocks ++ d.since) [] d.read none);
    small = d.small;
    took = d.took;
    drawn = d.drawn;
    whole = d.whole;
  }

  module _ (after' : Option (List ℕ)) (piece : List ℕ) (gave : Consumes after after' piece) where
    later : Consumes before after' (concat d.blocks ++ (d.since ++ piece))
    later = subst (Consumes before after') (append_assoc (concat d.blocks) d.since piece) (Consumes-trans before after after' (concat d.blocks ++ d.since) piece d.read gave)

    -- an allocation failed after a read
    pub draws_unanswered : DrawsOn how first b shown0 (Err NoMemory) before after' err err' line.on
    draws_unanswered = λ last ends. record {
      blocks = d.blocks;
      rest = d.since ++ piece;
      bars = d.bars;
      read = later;
      small = d.small;
      drawn = d.drawn;
      said = drawn_ended line.on err err' last (later_bars d.bars) d.took ends;
      whole = inr (inl refl);
    }

    module _ (ms : List Message) (fault : Option WireFault) (left : List ℕ) (board' : BoardValue) (line' : LineValue) (err'' : SinkState) (heard : IsHeard (waiting ++ piece) ms fault left)
        (small : length piece ≤ 65536) (joins : now (map body_of ms) board') where
      is_after : line.on ≡ true → (bar : List ℕ) → IsNewestBar first board' bar → IsBarAfter how first b (concat d.blocks ++ piece) bar
      is_after on bar is = (board', board_after (AreJoined how first b) now now board' (concat d.blocks) waiting piece left (d.goes on).0 ms fault heard joins, is)

      all_small : All (λ block. length block ≤ 65536) (d.blocks ++ piece ∷ [])
      all_small = All-append (λ block. length block ≤ 65536) d.blocks (piece ∷ []) d.small (All-cons (λ block. length block ≤ 65536) piece [] small (All-nil (λ block. length block ≤ 65536)))

      reads : line.on ≡ true → Consumes before after' (concat (d.blocks ++ piece ∷ []) ++ [])
      reads on = subst (Consumes before after')
          (ap (λ w. concat d.blocks ++ (w ++ piece)) (d.whole on) ∙ ap (λ w. concat d.blocks ++ w) (sym (append-nil piece))
          ∙ sym (concat-append d.blocks (piece ∷ [])) ∙ sym (append-nil (concat (d.blocks ++ piece ∷ []))))
          later

      takes : line.on ≡ true → (bar : List ℕ) → IsDrawn line'.on err' err'' (redrawn bar) → IsDrawn line'.on err err'' (later_bars (d.bars ++ bar ∷ []))
      takes on bar drew = subst (IsDrawn line'.on err err'') (ap (λ w. later_bars d.bars ++ w) (sym (append-nil (redrawn bar))) ∙ sym (flat_map-append redrawn d.bars (bar ∷ [])))
          (drawn_then true line'.on err err' err'' (later_bars d.bars) (redrawn bar) (subst (λ t. IsDrawn t err err' (later_bars d.bars)) on d.took) drew)

      grown : line.on ≡ true → (bar : List ℕ) → IsNewestBar first board' bar → Drawn how first b shown0 (d.blocks ++ piece ∷ []) bar (d.bars ++ bar ∷ [])
      grown on bar is = drawn_more how first b shown0 d.blocks line.shown d.bars (d.goes on).1 piece bar (is_after on bar is)

      kept : line.on ≡ true → (bar : List ℕ) → IsNewestBar first board' bar → bar ≡ line.shown → Drawn how first b shown0 (d.blocks ++ piece ∷ []) line.shown d.bars
      kept on bar is same = drawn_same how first b shown0 d.blocks line.shown d.bars (d.goes on).1 piece bar (is_after on bar is) same

      -- the last piece that was answered
      closed_one : line.on ≡ true → (bar : List ℕ) → IsNewestBar first board' bar → ((line'.shown ≡ bar) × IsDrawn line'.on err' err'' (redrawn bar)) ⊎ ((bar ≡ line.shown) × (line' ≡ line) × (err'' ≡ err')) → Closed how first b shown0 before after' err err'' line'.on
      closed_one on bar is (inl drew) = record {
        blocks = d.blocks ++ piece ∷ [];
        since = [];
        bars = d.bars ++ bar ∷ [];
        read = reads on;
        small = all_small;
        took = takes on bar drew.1;
        drawn = drawn_so_far how first b shown0 (d.blocks ++ piece ∷ []) bar (d.bars ++ bar ∷ []) (grown on bar is);
        whole = λ e. refl;
      }
      closed_one on bar is (inr same) = record {
        blocks = d.blocks ++ piece ∷ [];
        since = [];
        bars = d.bars;
        read = reads on;
        small = all_small;
        took = subst (λ l. IsDrawn l.on err err'' (later_bars d.bars)) (sym same.1) (subst (λ e. IsDrawn line.on err e (later_bars d.bars)) (sym same.2) d.took);
        drawn = drawn_so_far how first b shown0 (d.blocks ++ piece ∷ []) line.shown d.bars (kept on bar is same.0);
        whole = λ e. refl;
      }

      closed_off : line.on ≡ false → (line' ≡ line) × (err'' ≡ err') → Closed how first b shown0 before after' err err'' line'.on
      closed_off off same = record {
        blocks = d.blocks;
        since = d.since ++ piece;
        bars = d.bars;
        read = later;
        small = d.small;
        took = subst (λ l. IsDrawn l.on err err'' (later_bars d.bars)) (sym same.0) (subst (λ e. IsDrawn line.on err e (later_bars d.bars)) (sym same.1) d.took);
        drawn = d.drawn;
        whole = λ e. absurd (false≢true (sym off ∙ sym (ap (λ l. l.on) same.0) ∙ e));
      }

      -- the next read is to come
      module _ (none : fault ≡ None) (next : List Body → BoardValue → Type 0) (joins_more : (more : List Body) (e : BoardValue) → next more e → now (map body_of ms ++ more) e) where
        reads_to : line.on ≡ true → IsReadTo (AreJoined how first b) next (concat (d.blocks ++ piece ∷ [])) left
        reads_to on = subst (λ w. IsReadTo (AreJoined how first b) next w left) (ap (λ w. concat d.blocks ++ w) (sym (append-nil piece)) ∙ sym (concat-append d.blocks (piece ∷ [])))
            (read_more (AreJoined how first b) now next board' (concat d.blocks) waiting piece left (d.goes on).0 ms fault heard none joins_more)

        more_one : line.on ≡ true → (bar : List ℕ) → IsNewestBar first board' bar → ((line'.shown ≡ bar) × IsDrawn line'.on err' err'' (redrawn bar)) ⊎ ((bar ≡ line.shown) × (line' ≡ line) × (err'' ≡ err')) → Drawing how first b next shown0 before after' err err'' line' left
        more_one on bar is (inl drew) = record {
          blocks = d.blocks ++ piece ∷ [];
          since = [];
          bars = d.bars ++ bar ∷ [];
          read = reads on;
          small = all_small;
          took = takes on bar drew.1;
          drawn = drawn_so_far how first b shown0 (d.blocks ++ piece ∷ []) bar (d.bars ++ bar ∷ []) (grown on bar is);
          whole = λ e. refl;
          goes = λ e. (reads_to on, subst (λ w. Drawn how first b shown0 (d.blocks ++ piece ∷ []) w (d.bars ++ bar ∷ [])) (sym drew.0) (grown on bar is));
        }
        more_one on bar is (inr same) = record {
          blocks = d.blocks ++ piece ∷ [];
          since = [];
          bars = d.bars;
          read = reads on;
          small = all_small;
          took = subst (λ l. IsDrawn l.on err err'' (later_bars d.bars)) (sym same.1) (subst (λ e. IsDrawn line.on err e (later_bars d.bars)) (sym same.2) d.took);
          drawn = drawn_so_far how first b shown0 (d.blocks ++ piece ∷ []) line.shown d.bars (kept on bar is same.0);
          whole = λ e. refl;
          goes = λ e. (reads_to on, subst (λ (l : LineValue). Drawn how first b shown0 (d.blocks ++ piece ∷ []) l.shown d.bars) (sym same.1) (kept on bar is same.0));
        }

        more_off : line.on ≡ false → (line' ≡ line) × (err'' ≡ err') → Drawing how first b next shown0 before after' err err'' line' left
        more_off off same = record {
          blocks = d.blocks;
          since = d.since ++ piece;
          bars = d.bars;
          read = later;
          small = d.small;
          took = subst (λ l. IsDrawn l.on err err'' (later_bars d.bars)) (sym same.0) (subst (λ e. IsDrawn line.on err e (later_bars d.bars)) (sym same.1) d.took);
          drawn = d.drawn;
          whole = λ e. absurd (false≢true (sym off ∙ sym (ap (λ l. l.on) same.0) ∙ e));
          goes = λ e. absurd (false≢true (sym off ∙ sym (ap (λ l. l.on) same.0) ∙ e));
        }

-- by whether the line was drawn on
pub if_on : (on : Bool) (IsBar : List ℕ → Type 0) (line line' : LineValue) (err err' : SinkState) (P : Type 0) → ShowsIfOn on IsBar line line' err err'
    → (on ≡ true → ShowsOne IsBar line line' err err' → P) → (on ≡ false → (line' ≡ line) × (err' ≡ err) → P) → P
if_on true IsBar line line' err err' P s f g = f refl s
if_on false IsBar line line' err err' P s f g = g refl s

module _ (how : WatchAsk) (first : Change) (b : BoardValue) (now next : List Body → BoardValue → Type 0) (board' : BoardValue) (here : next [] board') (shown0 : List ℕ) (before after after' : Option (List ℕ)) (err err' err'' : SinkState) (line line' : LineValue) (waiting piece left : List ℕ)
    (d : Drawing how first b now shown0 before after err err' line waiting) (gave : Consumes after after' piece) (small : length piece ≤ 65536)
    (shows : ShowsIfOn line.on (IsNewestBar first board') line line' err' err'') where
  pub closed_piece : (flow : Next) → JoinsBytes flow now next board' (waiting ++ piece) left → Closed how first b shown0 before after' err err'' line'.on
  closed_piece flow j =
      let joins = joins_all flow now next board' (map body_of j.0) j.1 here j.3 in
      if_on line.on (IsNewestBar first board') line line' err' err'' (Closed how first b shown0 before after' err err'' line'.on) shows
      (λ on one. closed_one how first b now shown0 before after err err' line waiting d after' piece gave j.0 j.1 left board' line' err'' j.2 small joins on one.0 one.1 one.2)
      (closed_off how first b now shown0 before after err err' line waiting d after' piece gave j.0 j.1 left board' line' err'' j.2 small joins)

  pub drawing_more : JoinsBytes On now next board' (waiting ++ piece) left → Drawing how first b next shown0 before after' err err'' line' left
  drawing_more j =
      let joins = joins_all On now next board' (map body_of j.0) j.1 here j.3 in
      if_on line.on (IsNewestBar first board') line line' err' err'' (Drawing how first b next shown0 before after' err err'' line' left) shows
      (λ on one. more_one how first b now shown0 before after err err' line waiting d after' piece gave j.0 j.1 left board' line' err'' j.2 small joins j.3.0 next j.3.1 on one.0 one.1 one.2)
      (more_off how first b now shown0 before after err err' line waiting d after' piece gave j.0 j.1 left board' line' err'' j.2 small joins j.3.0 next j.3.1)

-- the same by what was returned
abbrev pub stop : RunFault → Result Next RunFault
stop e = Err e

module _ (how : WatchAsk) (first b_first : Change) (b : BoardValue) (now next : List Body → BoardValue → Type 0) (board' : BoardValue) (here : next [] board') (shown0 : List ℕ) (before after after' : Option (List ℕ)) (err err' err'' : SinkState) (line line' : LineValue) (waiting piece left : List ℕ)
    (d : Drawing how b_first b now shown0 before after err err' line waiting) (gave : Consumes after after' piece) (small : length piece ≤ 65536) where
  same_bar : first ≡ b_first → ShowsIfOn line.on (IsNewestBar first board') line line' err' err'' → ShowsIfOn line.on (IsNewestBar b_first board') line line' err' err''
  same_bar same shows = subst (λ f. ShowsIfOn line.on (IsNewestBar f board') line line' err' err'') same shows

  pub draws_more : first ≡ b_first → ShowsPiece (Ok On) (IsNewestBar first board') line line' err' err'' → JoinsPiece (Ok On) now next board' (waiting ++ piece) left
      → Drawing how b_first b next shown0 before after' err err'' line' left
  draws_more same shows j = drawing_more how b_first b now next board' here shown0 before after after' err err' err'' line line' waiting piece left d gave small (same_bar same shows) j

  pub draws_last : first ≡ b_first → (end : WatchEnd) → ShowsPiece (Ok (End end)) (IsNewestBar first board') line line' err' err'' → JoinsPiece (Ok (End end)) now next board' (waiting ++ piece) left
      → (result : Result WatchEnd RunFault) → DrawsOn how b_first b shown0 result before after' err err'' line'.on
  draws_last same end shows j result = draws_on how b_first b shown0 result before after' err err'' line'.on
      (closed_piece how b_first b now next board' here shown0 before after after' err err' err'' line line' waiting piece left d gave small (same_bar same shows) (End end) j)

  pub draws_stopped : (e : RunFault) → (stop e ≢ stop NoMemory → first ≡ b_first) → ShowsPiece (Err e) (IsNewestBar first board') line line' err' err''
      → JoinsPiece (Err e) now next board' (waiting ++ piece) left → DrawsOn how b_first b shown0 (Err e) before after' err err'' line'.on
  draws_stopped Read same shows j = absurd shows
  draws_stopped Write same shows j = draws_on how b_first b shown0 (Err Write) before after' err err'' line'.on
      (closed_piece how b_first b now next board' here shown0 before after after' err err' err'' line line' waiting piece left d gave small (same_bar (same (λ e. cc)) shows) j.0 j.1)
  draws_stopped NoMemory same shows j =
      subst (λ (l : LineValue). DrawsOn how b_first b shown0 (Err NoMemory) before after' err err'' l.on) (sym shows.0)
      (subst (λ x. DrawsOn how b_first b shown0 (Err NoMemory) before after' err x line.on) (sym shows.1)
      (draws_unanswered how b_first b now shown0 before after err err' line waiting d after' piece gave))

-- what a piece did to the line, by the bar that was to be drawn
pub piece_shows : (bar : Option (List ℕ)) (IsBar : List ℕ → Type 0) (line line' : LineValue) (err err' : SinkState) → IsToDraw bar IsBar line → Replaces bar line line' err err'
    → ShowsIfOn line.on IsBar line line' err err'
piece_shows (Some bar) IsBar line line' err err' is drew =
    subst (λ t. ShowsIfOn t IsBar line line' err err') (sym is.1) (bar, is.0, inl (drew.0, subst (λ t. Adds t line'.on err err' (redrawn bar)) is.1 drew.1))
piece_shows None IsBar line line' err err' (inl off) same = subst (λ t. ShowsIfOn t IsBar line line' err err') (sym off) same
piece_shows None IsBar line line' err err' (inr is) same = both line.on
  where
    both : (on : Bool) → ShowsIfOn on IsBar line line' err err'
    both true = (line.shown, is, inr (refl, same.0, same.1))
    both false = same

-- nothing is drawn where nothing was drawn before
pub quiet_piece : (result : Result Next RunFault) (IsBar : List ℕ → Type 0) (line line' : LineValue) (a err err' : SinkState) → (line.on ≡ false) × (err ≡ a) → ShowsPiece result IsBar line line' err err'
    → (line'.on ≡ false) × (err' ≡ a)
quiet_piece result IsBar line line' a err err' quiet shows = by_result result shows
  where
    same : (line' ≡ line) × (err' ≡ err) → (line'.on ≡ false) × (err' ≡ a)
    same s = (ap (λ l. l.on) s.0 ∙ quiet.0, s.1 ∙ quiet.1)

    by_result : (r : Result Next RunFault) → ShowsPiece r IsBar line line' err err' → (line'.on ≡ false) × (err' ≡ a)
    by_result (Ok flow) s = same (subst (λ t. ShowsIfOn t IsBar line line' err err') quiet.0 s)
    by_result (Err Read) s = absurd s
    by_result (Err Write) s = same (subst (λ t. ShowsIfOn t IsBar line line' err err') quiet.0 s)
    by_result (Err NoMemory) s = same s
