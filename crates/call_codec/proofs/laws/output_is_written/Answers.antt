use Rattle.call_codec.proofs.Mappings.{mapping_filled}
use Rattle.call_codec.proofs.Outputs.{entries_written, found_state_written, link_written, open_state_written, pread_written, read_written, state_written}
use Rattle.call_codec.proofs.ThreadOutputs.{exit_word_written, random_written, signal_word_written, unlock_word_written}
use Rattle.call_codec.proofs.WokenOutputs.{events_written, message_written, sent_written, words_written}
use Rattle.call_codec.proofs.laws.output_is_written.Goals as goal

pub returns-clause-pread : goal.returns-clause-pread
returns-clause-pread c = pread_written

pub returns-clause-read : goal.returns-clause-read
returns-clause-read c = read_written

pub returns-clause-state : goal.returns-clause-state
returns-clause-state c = state_written

pub returns-clause-entries : goal.returns-clause-entries
returns-clause-entries c = entries_written

pub returns-clause-link : goal.returns-clause-link
returns-clause-link c = link_written

pub returns-clause-open_state : goal.returns-clause-open_state
returns-clause-open_state c = open_state_written

pub returns-clause-found_state : goal.returns-clause-found_state
returns-clause-found_state c = found_state_written

pub returns-clause-mapping : goal.returns-clause-mapping
returns-clause-mapping c = mapping_filled

pub returns-clause-events : goal.returns-clause-events
returns-clause-events c = events_written

pub returns-clause-words : goal.returns-clause-words
returns-clause-words c = words_written

pub returns-clause-random : goal.returns-clause-random
returns-clause-random c = random_written

pub returns-clause-exit_word : goal.returns-clause-exit_word
returns-clause-exit_word c = exit_word_written

pub returns-clause-unlock_word : goal.returns-clause-unlock_word
returns-clause-unlock_word c = unlock_word_written

pub returns-clause-signal_word : goal.returns-clause-signal_word
returns-clause-signal_word c = signal_word_written

pub returns-clause-message : goal.returns-clause-message
returns-clause-message c = message_written

pub returns-clause-sent : goal.returns-clause-sent
returns-clause-sent c = sent_written
