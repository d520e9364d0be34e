-- No chain of copies gains a flag or an algorithm, over every history.
use Rattle.std.proofs.Common.{List, Option, [], refl, ℕ, ◌++◌, ◌∷◌}
use Rattle.store_model.proofs.{Common.CopiesGainNothing, Common.Entry, Common.FaultMark, Common.IsCaller, Common.IsSound, Common.Made, Common.Request, Common.Served, Common.Service, Common.counted, Common.destroyed, Common.found_made, Common.made_after, Common.made_by, Common.outcome_of, Common.replay, Common.serve, Common.source_of, Found.found_tracks, Served.request_shape, SoundService.stays}
use Rattle.std.specs.List.{AllByRecursion}
use Rattle.store_model.proofs.Origin.{Tracks, TracksReply, none_tracks, counted_tracks, created_source, created_tracks, destroyed_tracks}

-- the creations so far, beside a service after a request
abbrev TracksServed : List Made → Option ℕ → Served → Type 0
TracksServed made source served = TracksReply made source served.service.store served.reply

request_tracks : (service : Service) (caller : ℕ) (request : Request) (mark : FaultMark) (made : List Made) → IsSound service → Tracks service.store made →
    TracksServed made (source_of service.store request) (serve service caller request mark)
request_tracks service caller request mark made sound t =
    let source : Option ℕ = source_of service.store request in
    request_shape service caller (TracksServed made source) request mark (record {
      counted_too = λ own reply is quiet. none_tracks (counted service.store) made source reply quiet.no_key (counted_tracks service.store made t);
      created_too = λ own kept bytes is creates. created_tracks service.store caller kept bytes source made sound.store t (created_source service.store request kept made sound.store t source refl creates.source);
      destroyed_too = λ own reply id is quiet on. none_tracks (destroyed service.store id).store made source reply quiet.no_key (destroyed_tracks service.store id made t);
    })

over : (h : List Entry) (service : Service) (made : List Made) → AllByRecursion IsCaller h → IsSound service → Tracks service.store made → Tracks (replay service h).store (made_after service h made)
over [] service made c sound t = t
over (e ∷ es) service made c sound t =
    over es (outcome_of service e).service (made_by service e ++ made) c.1 (stays service e.caller e.call e.mark c.0.0 c.0.1 sound) (request_tracks service e.caller e.call e.mark made sound t)

pub gain_nothing : CopiesGainNothing
gain_nothing start h sound callers =
    let after = over h start (found_made start.store) callers sound (found_tracks start.store sound.store) in
    record {
      creations = after.origin;
      keys = λ id key e. let made = after.alive id key e in record { creation = made.0; found = made.1.0; policy = made.1.1 };
    }
