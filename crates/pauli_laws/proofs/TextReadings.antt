-- The readings of text, by one computed test over their list.
use mathlib.Core.Path.{◌≡◌, refl}
use mathlib.Core.List.{map}
use Rattle.pauli_group.specs.PauliString.{qubits, count_to}
use Rattle.pauli.specs.Answers.{refusal_number, refusal_detail}
use Rattle.pauli.specs.Entries.{entry_count, entry_letter, entry_qubit, occurrences, entry_of, entries_string}
use Rattle.pauli.specs.Layout.{phase_byte, letter_byte, phase_of, letter_of, encode_string, decode_string, string_record, string_of}
use Rattle.pauli.specs.Places.{listed, first_place}
use Rattle.pauli.specs.Questions.{ask, ◌and_then◌, smallest_duplicate, duplicate_question, room_question}
use Rattle.pauli.specs.SparseText.{digits_to, decimal, prefix_text, letter_text, entry_word, words_at, entry_words, spaced, body_text, sparse_text_to, sparse_text, text_of_record}
use Rattle.pauli.specs.Text.{is_space, is_digit, is_sign, is_small_i, letter_named, is_identity, leading_spaces, text_start, text_end, prefix_phase, prefix_length, text_phase, body_start, first_not_ascii, ascii_question}
use Rattle.pauli.specs.Text.{starts_word, longer, tokens, all_digits, digits_value, without_plus, index_value, is_index, index_questions, letter_question, has_index, attached_questions, token_questions, attached_entry, apart_entry, token_entries, sparse_tokens, sparse_entries, sparse_questions, sparse_string, from_sparse_questions, sparse_record}
use Rattle.pauli.specs.Text.{dense_body, dense_letter, letter_questions, dense_questions, dense_string, from_dense_questions, dense_record, without_signs, without_i, any_digit, is_sparse, text_questions, text_string, from_str_questions, text_record}
use Rattle.pauli_laws.specs.TextReadings.{text_answer, read_by, text_readings}

pub text_readings_hold : map (λ r. read_by r.reader r.text) text_readings ≡ map (λ r. r.answer) text_readings
unfolding text_readings read_by text_answer refusal_number refusal_detail qubits count_to entry_count entry_letter entry_qubit occurrences entry_of entries_string phase_byte letter_byte phase_of letter_of encode_string decode_string string_record string_of listed first_place ask ◌and_then◌ smallest_duplicate duplicate_question room_question digits_to decimal prefix_text letter_text entry_word words_at entry_words spaced body_text sparse_text_to sparse_text text_of_record is_space is_digit is_sign is_small_i letter_named is_identity leading_spaces text_start text_end prefix_phase prefix_length text_phase body_start first_not_ascii ascii_question starts_word longer tokens all_digits digits_value without_plus index_value is_index index_questions letter_question has_index attached_questions token_questions attached_entry apart_entry token_entries sparse_tokens sparse_entries sparse_questions sparse_string from_sparse_questions sparse_record dense_body dense_letter letter_questions dense_questions dense_string from_dense_questions dense_record without_signs without_i any_digit is_sparse text_questions text_string from_str_questions text_record
text_readings_hold = refl
