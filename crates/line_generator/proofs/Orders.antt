-- The generator's lines in any order: each session is answered as if it were alone.
use Rattle.std.proofs.Common.{All, Bool, List, [], ap, codes, cond, count_by, eq-eqb, eqb-true, false, filter, flat_map, get_or, inl, map, not, refl, subst, suc, sym, true, zero, ℕ, ◌%◌, ◌*◌, ◌++◌, ◌+◌, ◌-◌, ◌/◌, ◌==◌, ◌∙◌, ◌∷◌, ◌≡◌}
use Rattle.line_generator.proofs.Common.{All-head, All-tail, AreCalls, attributes_at, call, count_line, encode_lower, Entry, eqb-false, fields, generator_line, generator_lines, Unowned, id_given, import_fields, is_success, length-map, lines_of, map-append, numbered, outcome_of, output_bytes, Plain, range_with_len, replies_to, Reply, ReplyLine, Request, request_of, rising_bytes, serve, Served, Service, sha256, sum_by-cons, summary_of, Turn, turns_from, turns_of, unranked_text}
use Rattle.script_lang.specs.{declared.commands.ScriptCommand.TheVariants.Key, declared.commands.ScriptCommand.TheVariants.SinglePart, declared.store_commands.KeyCommand.TheVariants.Import, declared.store_commands.KeyCommand.TheVariants.Export, declared.store_commands.KeyCommand.TheVariants.Destroy, declared.script.KeyWord.TheVariants.Given, declared.script.KeyWord.TheVariants.Line}
use Rattle.script_lang.specs.{declared.store_commands.SinglePartCommand.TheVariants.CipherEncrypt, declared.store_commands.SinglePartCommand.TheVariants.MacCompute, declared.script.ScriptCall.ScriptCall, declared.script.ScriptLine.ScriptLine}
use Rattle.script_lang.specs.Prelude.{without_rank}
use Rattle.line_generator.specs.Orders.{IsOrder, reply_lines_of, RepliesInAnyOrder, SummaryInAnyOrder}
use Rattle.line_generator.proofs.{Alike.Alike, Alike.NoZero, Alike.OwnId, Steps.KeyCall, Steps.Imports, Steps.Exports, Steps.Signs, Steps.Encrypts, Steps.Destroys, Steps.asked, Steps.IsOwn, Steps.SameStep, Steps.own_step, Steps.other_step, Steps.zero_stays, Steps.given_own}

abbrev pub Each : {X : Type 0} → (X → Type 0) → List X → Type 0
Each P [] = Unit {0}
Each P (x ∷ xs) = P x × Each P xs

each_filter : {X : Type 0} (P : X → Type 0) (p : X → Bool) (xs : List X) → Each P xs → Each P (filter p xs)
each_filter P p [] h = tt
each_filter P p (x ∷ xs) h = elim (p x) as (λ b. Each P (cond b (x ∷ filter p xs) (filter p xs))) [ true ↦ (h.0, each_filter P p xs h.1) | false ↦ each_filter P p xs h.1 ]

each_mapped : {X : Type 0} (P : X → Type 0) (f : ℕ → X) (a n : ℕ) → ((i : ℕ) → P (f i)) → Each P (map f (range_with_len a n))
each_mapped P f a zero h = tt
each_mapped P f a (suc n) h = (h a, each_mapped P f (a + 1) n h)

each_push : {X : Type 0} (P : X → Type 0) (xs : List X) (x : X) → Each P xs → P x → Each P (xs ++ x ∷ [])
each_push P [] x h k = (k, tt)
each_push P (y ∷ ys) x h k = (h.0, each_push P ys x h.1 k)

-- THE LINES

-- a line asks a session's call on its own keys, whatever its own calls before gave
pub record Asks (session : ℕ) (request : Request) : Type 0 where
  pub key_call : KeyCall
  pub is : request ≡ asked key_call
  pub own : IsOwn session key_call

abbrev pub AsksOwn : ScriptCall → Type 0
AsksOwn c = (session : ℕ) (ids : List ℕ) → Each (OwnId session) ids → Asks session (request_of ids c)

abbrev pub KeyLine : ScriptLine → Type 0
KeyLine line = AsksOwn line.call

own_at : (session : ℕ) (ids : List ℕ) (place : ℕ) → Each (OwnId session) ids → OwnId session (get_or ids place 0)
own_at session [] place h = inl refl
own_at session (id ∷ ids) zero h = h.0
own_at session (id ∷ ids) (suc place) h = own_at session ids place h.1

asks_import : (bytes : List ℕ) → AsksOwn (call (Key Import) (Given (record { 0 = 0 })) (import_fields bytes))
asks_import bytes session ids h = record { key_call = Imports (attributes_at (import_fields bytes)) bytes; is = refl; own = refl }

asks_encrypt : (place alg : ℕ) (bytes : List ℕ) → AsksOwn (call (SinglePart CipherEncrypt) (Line place) (fields alg bytes))
asks_encrypt place alg bytes session ids h = record { key_call = Encrypts (get_or ids place 0) alg bytes 16448; is = refl; own = own_at session ids place h }

asks_export : (place : ℕ) → AsksOwn (call (Key Export) (Line place) [])
asks_export place session ids h = record { key_call = Exports (get_or ids place 0) 16448; is = refl; own = own_at session ids place h }

asks_mac : (place alg : ℕ) (bytes : List ℕ) → AsksOwn (call (SinglePart MacCompute) (Line place) (fields alg bytes))
asks_mac place alg bytes session ids h = record { key_call = Signs (get_or ids place 0) alg bytes 16448; is = refl; own = own_at session ids place h }

asks_destroy : (place : ℕ) → AsksOwn (call (Key Destroy) (Line place) [])
asks_destroy place session ids h = record { key_call = Destroys (get_or ids place 0); is = refl; own = own_at session ids place h }

either : (b : Bool) (x y : ScriptCall) → AsksOwn x → AsksOwn y → AsksOwn (cond b x y)
either true x y h k = h
either false x y h k = k

key_line : (i : ℕ) → KeyLine (generator_line i)
key_line i =
    let place = i / 4 in
    let kind = place % 5 in
    either (kind == 0) _ _ (asks_import (rising_bytes i 16)) (either (kind == 1) _ _ (asks_encrypt (place - 1) 0x04404000 (rising_bytes (3 * i) 64))
    (either (kind == 2) _ _ (asks_export (place - 2)) (either (kind == 3) _ _ (asks_mac (place - 3) 0x03c00200 (0 ∷ [])) (asks_destroy (place - 4)))))

key_lines : (session count : ℕ) → Each KeyLine (lines_of session (generator_lines count))
key_lines session count = each_filter KeyLine (λ line. line.session == session) (generator_lines count) (each_mapped KeyLine generator_line 0 count key_line)

-- ONE SESSION ALONE

alone : (session : ℕ) → Service → List ℕ → List ScriptLine → List Reply
alone session b ids [] = []
alone session b ids (line ∷ lines) =
    let out : Served = serve b session (request_of ids line.call) Plain in out.reply ∷ alone session out.service (ids ++ id_given out.reply.output ∷ []) lines

turn_is : (a : Service) (e : Entry) (session : ℕ) (request : Request) → e.caller ≡ session → e.call ≡ request → e.mark ≡ Plain → outcome_of a e ≡ serve a session request Plain
turn_is a e session request p q r = λ i. serve a (p i) (q i) (r i)

-- the calls of each session that are still to come
record Known (session : ℕ) (turns : List Turn) : Type 0 where
  ids : List ℕ
  lines : List ScriptLine
  own : Each (OwnId session) ids
  keys : Each KeyLine lines
  calls : AreCalls Unowned ids lines turns

-- what the head of a session's calls is
record Head (a : Service) (e : Entry) (session : ℕ) (rest : List Turn) : Type 0 where
  asks : KeyCall
  own : IsOwn session asks
  is : outcome_of a e ≡ serve a session (asked asks) Plain
  after : Known session rest

turn : (rank : ℕ) (a : Service) (e : Entry) → Turn
turn rank a e = record { entry = e; rank = rank; reply = (outcome_of a e).reply }

head_of : (rank : ℕ) (a : Service) (e : Entry) (session : ℕ) (rest : List Turn) (ids : List ℕ) (lines : List ScriptLine) → e.caller ≡ session → e.mark ≡ Plain → Each (OwnId session) ids → Each KeyLine lines →
    AreCalls Unowned ids lines (turn rank a e ∷ rest) → Head a e session rest
unfolding turn
head_of rank a e session rest ids [] p m own keys calls = absurd calls
head_of rank a e session rest ids (line ∷ lines) p m own keys calls =
    let asks = keys.0 session ids own in
    let is : outcome_of a e ≡ serve a session (asked asks.key_call) Plain = turn_is a e session (asked asks.key_call) p (calls.1 ∙ asks.is) m in
    record {
      asks = asks.key_call;
      own = asks.own;
      is = is;
      after = record {
        ids = ids ++ id_given (outcome_of a e).reply.output ∷ [];
        lines = lines;
        own = each_push (OwnId session) ids _ own (subst (λ (s : Served). OwnId session (id_given s.reply.output)) (sym is) (given_own session a asks.key_call asks.own));
        keys = keys.1;
        calls = calls.2;
      };
    }

known_next : (rank : ℕ) (a : Service) (e : Entry) (session : ℕ) (rest : List Turn) (b : Bool) → (e.caller == session) ≡ b → e.mark ≡ Plain →
    Known session (cond b (turn rank a e ∷ rest) rest) → Known session rest
known_next rank a e session rest true t m k = (head_of rank a e session rest k.ids k.lines (eqb-true e.caller session t) m k.own k.keys k.calls).after
known_next rank a e session rest false t m k = k

head_at : (rank : ℕ) (a : Service) (e : Entry) (rest : List Turn) → e.mark ≡ Plain → Known e.caller (cond (e.caller == e.caller) (turn rank a e ∷ rest) rest) → Head a e e.caller rest
head_at rank a e rest m known =
    let k : Known e.caller (turn rank a e ∷ rest) = rw (eq-eqb e.caller e.caller refl) at known in head_of rank a e e.caller rest k.ids k.lines refl m k.own k.keys k.calls

-- THE HISTORY

-- a call of the session, and the session's calls after it
own_turn : (a b : Service) (session : ℕ) (request : Request) → (asks : Asks session request) → NoZero a → NoZero b → Alike session a b →
    SameStep session (serve a session request Plain) (serve b session request Plain)
own_turn a b session request asks za zb h =
    subst (λ r. SameStep session (serve a session r Plain) (serve b session r Plain)) (sym asks.is) (own_step session a b asks.key_call asks.own za zb h)

zero_after : (b : Service) (session : ℕ) (request : Request) → Asks session request → NoZero b → NoZero (serve b session request Plain).service
zero_after b session request asks z = subst (λ r. NoZero (serve b session r Plain).service) (sym asks.is) (zero_stays session b asks.key_call asks.own z)

abbrev replies_in : List Turn → List Reply
replies_in turns = map (λ t. t.reply) turns

-- the turns of each session from a service on
abbrev AllKnown : List Turn → Type 0
AllKnown turns = (session : ℕ) → Known session (turns_of session turns)

-- what is to be shown of a history: whatever the services, so long as they are alike to the session
abbrev Follows : ℕ → List Entry → Type 0
Follows session es =
    (rank : ℕ) (a b : Service) (ids : List ℕ) (lines : List ScriptLine) → All (λ e. e.mark ≡ Plain) es → NoZero a → NoZero b → Alike session a b →
    Each (OwnId session) ids → Each KeyLine lines → AreCalls Unowned ids lines (turns_of session (turns_from Unowned rank a es)) → AllKnown (turns_from Unowned rank a es) →
    replies_in (turns_of session (turns_from Unowned rank a es)) ≡ alone session b ids lines

all_next : (rank : ℕ) (a : Service) (e : Entry) (rest : List Turn) → e.mark ≡ Plain → AllKnown (turn rank a e ∷ rest) → AllKnown rest
unfolding turn
all_next rank a e rest m known session = known_next rank a e session (turns_of session rest) (e.caller == session) refl m (known session)

-- another session's call
passed : (session rank : ℕ) (a b : Service) (e : Entry) (rest : List Turn) → (e.caller == session) ≡ false → e.mark ≡ Plain → NoZero a → Alike session a b → AllKnown (turn rank a e ∷ rest) →
    NoZero (outcome_of a e).service × Alike session (outcome_of a e).service b
unfolding turn
passed session rank a b e rest f m za h known =
    let head : Head a e e.caller (turns_of e.caller rest) = head_at rank a e (turns_of e.caller rest) m (known e.caller) in (
      subst (λ (s : Served). NoZero s.service) (sym head.is) (zero_stays e.caller a head.asks head.own za),
      subst (λ (s : Served). Alike session s.service b) (sym head.is) (other_step e.caller session a b head.asks (λ is. eqb-false e.caller session f (sym is)) head.own h),
    )

step : (session : ℕ) (e : Entry) (es : List Entry) → Follows session es → (t : Bool) → (rank : ℕ) (a b : Service) (ids : List ℕ) (lines : List ScriptLine) → (e.caller == session) ≡ t →
    e.mark ≡ Plain → All (λ x. x.mark ≡ Plain) es → NoZero a → NoZero b → Alike session a b → Each (OwnId session) ids → Each KeyLine lines →
    AreCalls Unowned ids lines (cond t (turn rank a e ∷ turns_of session (turns_from Unowned (rank + 1) (outcome_of a e).service es)) (turns_of session (turns_from Unowned (rank + 1) (outcome_of a e).service es))) →
    AllKnown (turn rank a e ∷ turns_from Unowned (rank + 1) (outcome_of a e).service es) →
    replies_in (cond t (turn rank a e ∷ turns_of session (turns_from Unowned (rank + 1) (outcome_of a e).service es)) (turns_of session (turns_from Unowned (rank + 1) (outcome_of a e).service es))) ≡ alone session b ids lines
unfolding alone turn
step session e es later true rank a b ids [] t m ms za zb h own keys calls known = absurd calls
step session e es later true rank a b ids (line ∷ lines) t m ms za zb h own keys calls known =
    let request : Request = request_of ids line.call in
    let asks : Asks session request = keys.0 session ids own in
    let is : outcome_of a e ≡ serve a session request Plain = turn_is a e session request (eqb-true e.caller session t) calls.1 m in
    let both : SameStep session (outcome_of a e) (serve b session request Plain) =
    subst (λ (s : Served). SameStep session s (serve b session request Plain)) (sym is) (own_turn a b session request asks za zb h) in
    let next : List ℕ = ids ++ id_given (outcome_of a e).reply.output ∷ [] in
    let owned : OwnId session (id_given (outcome_of a e).reply.output) =
    subst (λ (s : Served). OwnId session (id_given s.reply.output)) (sym (is ∙ ap (λ r. serve a session r Plain) asks.is)) (given_own session a asks.key_call asks.own) in
    let zero : NoZero (outcome_of a e).service = subst (λ (s : Served). NoZero s.service) (sym is) (zero_after a session request asks za) in
    let after = later (rank + 1) (outcome_of a e).service (serve b session request Plain).service next lines ms zero (zero_after b session request asks zb) both.alike
    (each_push (OwnId session) ids _ own owned) keys.1 calls.2 (all_next rank a e (turns_from Unowned (rank + 1) (outcome_of a e).service es) m known) in
    ap (λ rs. (outcome_of a e).reply ∷ rs) after
    ∙ (λ i. both.reply i ∷ alone session (serve b session request Plain).service (ids ++ id_given (both.reply i).output ∷ []) lines)
step session e es later false rank a b ids lines t m ms za zb h own keys calls known =
    let rest = turns_from Unowned (rank + 1) (outcome_of a e).service es in
    let left = passed session rank a b e rest t m za h known in
    later (rank + 1) (outcome_of a e).service b ids lines ms left.0 zb left.1 own keys calls (all_next rank a e rest m known)

follows : (session : ℕ) (es : List Entry) → Follows session es
unfolding alone turn
follows session [] rank a b ids [] ms za zb h own keys calls known = refl
follows session [] rank a b ids (line ∷ lines) ms za zb h own keys calls known = absurd calls
follows session (e ∷ es) rank a b ids lines ms za zb h own keys calls known =
    step session e es (follows session es) (e.caller == session) rank a b ids lines refl (All-head (λ x. x.mark ≡ Plain) e es ms) (All-tail (λ x. x.mark ≡ Plain) e es ms) za zb h own keys calls known

-- a service is alike to itself
itself : (session : ℕ) (a : Service) → Alike session a a
itself session a = record { own = refl; owns = refl; stores = record { made = refl; mades = refl; settings = refl; keys = λ id t. refl; live = refl } }

as_alone : (start : Service) (count : ℕ) (history : List Entry) (session : ℕ) → NoZero start → IsOrder start count history →
    replies_in (turns_of session (turns_from Unowned 0 start history)) ≡ alone session start [] (lines_of session (generator_lines count))
as_alone start count history session z order =
    follows session history 0 start start [] (lines_of session (generator_lines count)) order.plain z z (itself session start) tt (key_lines session count) (order.own session)
    (λ other. record { ids = []; lines = lines_of other (generator_lines count); own = tt; keys = key_lines other count; calls = order.own other })

-- WHAT IS PRINTED

unranked : ℕ → ℕ → List Reply → List ReplyLine
unranked session number [] = []
unranked session number (r ∷ rs) = record { session = session; number = number; rank = 0; status = r.status; bytes = output_bytes r.output } ∷ unranked session (number + 1) rs

by_turn : (session number : ℕ) (t : Turn) (rest : List Turn) (b : Bool) → (t.entry.caller == session) ≡ b →
    ((n : ℕ) → map without_rank (numbered n rest) ≡ unranked session n (replies_in rest)) →
    map without_rank (numbered number (cond b (t ∷ rest) rest)) ≡ unranked session number (replies_in (cond b (t ∷ rest) rest))
unfolding unranked
by_turn session number t rest true e later = λ i. record { session = eqb-true t.entry.caller session e i; number = number; rank = 0; status = t.reply.status; bytes = output_bytes t.reply.output } ∷ later (number + 1) i
by_turn session number t rest false e later = later number

lines_unranked : (session : ℕ) (ts : List Turn) (number : ℕ) → map without_rank (numbered number (turns_of session ts)) ≡ unranked session number (replies_in (turns_of session ts))
unfolding unranked
lines_unranked session [] number = refl
lines_unranked session (t ∷ ts) number = by_turn session number t (turns_of session ts) (t.entry.caller == session) refl (lines_unranked session ts)

sessions_to : (n : ℕ) (ts us : List Turn) → ((session : ℕ) → replies_in (turns_of session ts) ≡ replies_in (turns_of session us)) →
    map without_rank (replies_to n (λ session. turns_of session ts)) ≡ map without_rank (replies_to n (λ session. turns_of session us))
sessions_to zero ts us h = refl
sessions_to (suc n) ts us h =
    map-append without_rank (replies_to n (λ session. turns_of session ts)) (numbered 1 (turns_of (suc n) ts))
    ∙ (λ i. sessions_to n ts us h i ++ (lines_unranked (suc n) ts 1 ∙ ap (unranked (suc n) 1) (h (suc n)) ∙ sym (lines_unranked (suc n) us 1)) i)
    ∙ sym (map-append without_rank (replies_to n (λ session. turns_of session us)) (numbered 1 (turns_of (suc n) us)))

pub replies_alike : RepliesInAnyOrder
replies_alike start count one other z first second =
    sessions_to 16 (turns_from Unowned 0 start one) (turns_from Unowned 0 start other) (λ session. as_alone start count one session z first ∙ sym (as_alone start count other session z second))

-- WHAT IS SUMMED UP

counted_alike : (p : ReplyLine → Bool) (lines : List ReplyLine) → ((line : ReplyLine) → p (without_rank line) ≡ p line) → count_by p (map without_rank lines) ≡ count_by p lines
counted_alike p [] h = refl
counted_alike p (line ∷ lines) h =
    sum_by-cons (λ x. cond (p x) 1 0) (without_rank line) (map without_rank lines) ∙ (λ i. cond (h line i) 1 0 + counted_alike p lines h i) ∙ sym (sum_by-cons (λ x. cond (p x) 1 0) line lines)

text_alike : (lines : List ReplyLine) → flat_map unranked_text (map without_rank lines) ≡ flat_map unranked_text lines
unfolding unranked_text
text_alike [] = refl
text_alike (line ∷ lines) = ap (λ text. unranked_text line ++ text) (text_alike lines)

summary_alike : (lines : List ReplyLine) → summary_of (map without_rank lines) ≡ summary_of lines
unfolding summary_of
summary_alike lines = λ i.
    count_line (codes "calls ") (length-map lines without_rank i)
    ++ count_line (codes "successes ") (counted_alike is_success lines (λ line. refl) i)
    ++ count_line (codes "refusals ") (counted_alike (λ line. not (is_success line)) lines (λ line. refl) i)
    ++ codes "sha256 " ++ encode_lower (sha256 (text_alike lines i)) ++ codes "\n"

pub summaries_alike : SummaryInAnyOrder
summaries_alike start count one other z first second =
    sym (summary_alike (reply_lines_of start one)) ∙ ap summary_of (replies_alike start count one other z first second) ∙ summary_alike (reply_lines_of start other)
