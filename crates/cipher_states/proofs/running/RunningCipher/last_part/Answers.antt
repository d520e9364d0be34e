use Rattle.cipher_states.proofs.Common.{After, AnswersOrSpoils, Bool, CipherWork, GivesBytes, HoldsCipher, InError, Inactive, List, ap, buffer_after, cond, eqb-true, is_whole_text, last_length, length, model_mode, pkcs7_unpadded, refl, rules, subst, sym, takes_text, true, ℕ, ◌<◌, ◌∙◌, ◌≡◌}
use Rattle.cipher_states.proofs.{LastParts.unpadded_end, Finishing.not_none, Finishing.room_is, Finishing.block_buffer, Finishing.ends_bare, Finishing.part_kept, Finishing.ends_padded, Finishing.block_kept, Finishing.ends_unpadded}
use Rattle.cipher_states.proofs.running.RunningCipher.last_part.Goals as goal

pub returns-then-is_empty-clause-buffer : goal.returns-then-is_empty-clause-buffer
returns-then-is_empty-clause-buffer c = λ w h ready whole.
    let none : last_length (model_mode c.args.self.now.mode) ≡ 0 = sym c.requires.room ∙ eqb-true (length c.args.out.now) 0 (sym c.is_empty.ensures ∙ c.if-is_empty.true) in
    ap (λ (a : After CipherWork). buffer_after c.args.out.now a.reply) (sym (ends_bare c.args.self.now w h ready none whole))

pub returns-then-self : goal.returns-then-self
returns-then-self c =
    let s = c.args.self.now in
    let padded = subst (λ (n : ℕ). 0 < n) c.requires.room (not_none (length c.args.out.now) (sym c.is_empty.ensures ∙ c.if-is_empty.false)) in
    let room = c.requires.room ∙ room_is s padded in
    let same = λ (w : CipherWork) (h : HoldsCipher s w) (ready : takes_text w ≡ true). c.copy_from_slice.ensures.after ∙ c.padded.ensures (part_kept s w h ready padded c.if-self.true) in
    record {
      within = search rules;
      reply = λ w h ready whole.
          subst (λ (a : After CipherWork). GivesBytes 16 a.reply) (sym (ends_padded s w h ready padded c.if-self.true))
          (refl, sym (ap length (sym (same w h ready)) ∙ c.copy_from_slice.ensures.len ∙ room), refl);
      buffer = λ w h ready whole.
          same w h ready ∙ block_buffer _ c.args.out.now (ap length (sym (same w h ready)) ∙ c.copy_from_slice.ensures.len ∙ room) room
          ∙ ap (λ (a : After CipherWork). buffer_after c.args.out.now a.reply) (sym (ends_padded s w h ready padded c.if-self.true));
      operation = λ w h ready whole. ap (λ (a : After CipherWork). a.operation) (ends_padded s w h ready padded c.if-self.true);
    }

pub returns-else-self : goal.returns-else-self
returns-else-self c =
    let s = c.args.self.now in
    let padded = subst (λ (n : ℕ). 0 < n) c.requires.room (not_none (length c.args.out.now) (sym c.is_empty.ensures ∙ c.if-is_empty.false)) in
    let end = λ (w : CipherWork) (h : HoldsCipher s w) (ready : takes_text w ≡ true) (whole : is_whole_text w ≡ true).
    ends_unpadded s w h ready padded c.if-self.false whole ∙ ap (λ (l : List ℕ). unpadded_end (pkcs7_unpadded l)) (sym (c.last.ensures (block_kept s w h ready padded c.if-self.false whole))) in
    record {
      within = search rules;
      reply = λ w h ready whole. subst (λ (a : After CipherWork). AnswersOrSpoils c.put_unpadded.result a.reply) (sym (end w h ready whole)) c.put_unpadded.ensures.reply;
      buffer = λ w h ready whole. c.put_unpadded.ensures.buffer ∙ ap (λ (a : After CipherWork). buffer_after c.args.out.now a.reply) (sym (end w h ready whole));
      operation = λ w h ready whole. ap (λ (a : After CipherWork). a.operation) (end w h ready whole) ∙ ap (λ (b : Bool). cond b Inactive InError) (sym c.put_unpadded.ensures.padding);
    }
